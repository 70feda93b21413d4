-- The rules of the logic, in the order in which they stand on one another.
pub mod Numbering
pub mod Environment
pub mod Telescopes
pub mod Step
pub mod Conversion
pub mod Inductive
pub mod Nested
pub mod Shapes
pub mod Guard
pub mod Typing
pub mod Formed
pub mod Reach
