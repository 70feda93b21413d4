pub mod Cuts
pub mod Binders
pub mod Groups
pub mod Named
pub mod Functioning
pub mod Fixing
pub mod Whole
pub mod Stated
