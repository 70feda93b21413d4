-- Words that connect the definitions with the code.
pub mod Instances
pub mod Steps
