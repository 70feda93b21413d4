pub mod Makes
pub mod calls
