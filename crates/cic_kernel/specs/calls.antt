-- Words that state contracts of the parts of the check.
pub mod Judging
