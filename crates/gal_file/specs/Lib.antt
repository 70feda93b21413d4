pub mod Reading
pub mod calls
