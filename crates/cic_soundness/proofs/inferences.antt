-- Inference and checks against a type.
pub mod Calls
pub mod Elimination
pub mod Sorts
pub mod Typed
