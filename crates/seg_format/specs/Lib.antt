pub mod Numbers
pub mod Files
pub mod Defects
pub mod calls
