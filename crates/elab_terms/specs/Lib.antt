-- What reading a term answers.
pub mod Elaboration
pub mod calls
