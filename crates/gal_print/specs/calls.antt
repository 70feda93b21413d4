-- Words that connect the code with the texts.
pub mod Kinds
pub mod Names
pub mod Output
pub mod Places
