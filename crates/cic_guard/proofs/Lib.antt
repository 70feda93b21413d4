pub mod Binders
pub mod Depths
pub mod Functions
pub mod Parts
