-- Words that connect the definitions with the code, and the section of the examples.
pub mod Standing
pub mod Examples
