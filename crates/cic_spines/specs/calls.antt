-- Words that connect the definitions with the code.
pub mod Several
pub mod Unfoldings
pub mod Parts
