-- Words that state contracts of the parts of conversion.
pub mod Sorts
pub mod Parts
