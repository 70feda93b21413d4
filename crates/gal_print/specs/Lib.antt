-- How terms are printed, and what the calls that print answer.
pub mod Sorts
pub mod Heads
pub mod Printing
pub mod Declarations
pub mod Examples
pub mod Appending
pub mod Sent
pub mod calls
