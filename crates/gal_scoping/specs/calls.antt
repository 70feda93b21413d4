-- The worked library of the examples.
pub mod Examples
