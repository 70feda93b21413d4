-- Words that connect the definitions with the code.
pub mod Parts
pub mod Rows
pub mod Guards
pub mod Walks
