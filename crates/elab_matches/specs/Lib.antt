-- What the values of the program stand for, and what its calls answer.
pub mod Matches
pub mod calls
