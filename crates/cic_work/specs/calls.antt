-- Words that state contracts of counted calls.
pub mod Counting
