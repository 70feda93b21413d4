pub mod Faults
pub mod calls
