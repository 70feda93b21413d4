-- The guard and positivity.
pub mod Respecting
pub mod Functions
pub mod Growth
pub mod Substitution
pub mod Together
pub mod Environments
pub mod Positivity
