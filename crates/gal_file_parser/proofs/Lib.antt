pub mod Absent
pub mod Rows
pub mod Firsts
pub mod Ctors
mod Examples
