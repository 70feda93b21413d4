-- Words that state contracts of calls.
pub mod Names
pub mod Layers
pub mod Stored
pub mod States
pub mod Codes
pub mod Worked
