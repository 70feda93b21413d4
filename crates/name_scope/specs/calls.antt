-- Words that state contracts of calls.
pub mod Changes
pub mod Answers
