pub mod Applications
pub mod Atoms
