pub mod Identifier
pub mod Sameness
pub mod Orders
pub mod Texts
