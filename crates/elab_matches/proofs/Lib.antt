pub mod Tables
pub mod Writing
pub mod Reading
pub mod Bodies
pub mod Places
pub mod Orders
pub mod Whole
