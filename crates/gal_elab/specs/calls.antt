-- How the program looks names up, and what its calls answer.
pub mod Resolving
pub mod LookingUp
