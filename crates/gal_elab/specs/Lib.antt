-- What a term that is written with names stands for, and what an answer says of it.
pub mod Scoping
pub mod Answers
pub mod calls
