pub mod Steps
pub mod Texts
pub mod Places
pub mod Meanings
