pub mod Sections
pub mod Answers
pub mod Laws
pub mod calls
