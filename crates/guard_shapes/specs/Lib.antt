pub mod Denotes
pub mod Marks
pub mod calls
