-- Words that connect the definitions with the code.
pub mod Parts
