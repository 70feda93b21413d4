-- The tests of a block of inductive types.
pub mod Shapes
pub mod Nested
pub mod Positivity
pub mod PlainPositivity
pub mod PlainIsNested
