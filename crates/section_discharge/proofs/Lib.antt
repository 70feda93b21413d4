pub mod Limits
pub mod Tables
pub mod Passing
pub mod Bounds
pub mod Gathered
pub mod Counted
pub mod Nexts
pub mod Whole
