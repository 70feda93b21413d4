pub mod Files
pub mod Faults
pub mod Reading
pub mod Sending
pub mod FileName
pub mod NamedFile
pub mod Calls
pub mod Memory
