-- What the calls answer.
pub mod Parts
pub mod Bindings
pub mod Readings
pub mod Functions
pub mod Places
