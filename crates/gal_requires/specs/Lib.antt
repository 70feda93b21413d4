pub mod Required
pub mod Roots
pub mod calls
