-- Words that state contracts of calls.
pub mod Kinds
pub mod Walk
pub mod Answer
