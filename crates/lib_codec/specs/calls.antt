-- What the functions of this crate say.
pub mod Lists
pub mod Writing
