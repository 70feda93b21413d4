-- The test of the guard.
pub mod Sound
pub mod Parts
pub mod Plain
pub mod Examples
