-- The check of one declaration.
pub mod Sorts
pub mod Constructors
pub mod Passed
pub mod Judgement
