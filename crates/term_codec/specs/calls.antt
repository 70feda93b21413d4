-- Words that state contracts of calls.
pub mod Answers
pub mod Kinds
pub mod Functions
pub mod Rows
pub mod Items
