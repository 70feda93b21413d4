-- What names mean at a place of a library, and which terms and declarations what is written stands for.
pub mod Scopes
pub mod Readings
pub mod Names
pub mod Levels
pub mod Matches
pub mod Fixpoints
pub mod Terms
pub mod Declarations
pub mod calls
