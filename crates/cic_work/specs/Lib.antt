pub mod Verdicts
pub mod calls
