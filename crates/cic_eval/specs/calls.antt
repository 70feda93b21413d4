-- Words that state contracts of the parts of evaluation.
pub mod Turns
