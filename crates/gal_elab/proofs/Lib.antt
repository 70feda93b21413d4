pub mod Levelled
pub mod Resolutions
pub mod Determined
