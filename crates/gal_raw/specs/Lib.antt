pub mod Denotes
pub mod Commands
pub mod calls
