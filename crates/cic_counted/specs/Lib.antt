-- The counted functions, the check of one declaration, and what they cost.
pub mod Sameness
pub mod Readings
pub mod Outcome
pub mod Evaluation
pub mod PlainPositivity
pub mod BlockTests
pub mod NestedTest
pub mod GuardTest
pub mod Inference
pub mod Checking
pub mod calls
