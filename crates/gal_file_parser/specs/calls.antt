pub mod Openings
pub mod Words
pub mod Steps
