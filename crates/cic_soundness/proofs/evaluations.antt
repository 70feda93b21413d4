-- Evaluation, conversion and subtyping of the check.
pub mod Readings
pub mod Steps
pub mod Sorts
pub mod Conversion
