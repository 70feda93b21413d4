pub mod Limits
pub mod Telescopes
