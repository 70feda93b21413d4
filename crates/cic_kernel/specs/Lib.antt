pub mod Accepting
pub mod calls
