pub mod Left
pub mod Faults
pub mod calls
