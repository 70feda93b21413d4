pub mod Branching
pub mod Eliminating
pub mod Fixes
pub mod Following
pub mod Matching
pub mod Slices
pub mod Taken
