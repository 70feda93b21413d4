-- What the values of the program stand for, and what its calls answer.
pub mod Binders
pub mod Faults
pub mod Places
pub mod calls
