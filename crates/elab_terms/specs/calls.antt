-- What the calls answer.
pub mod Sizes
pub mod Walks
