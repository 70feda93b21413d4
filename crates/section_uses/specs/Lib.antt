pub mod Kept
pub mod calls
