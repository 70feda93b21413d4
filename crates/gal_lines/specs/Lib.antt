pub mod Lines
pub mod Joined
pub mod Sentences
pub mod calls
