-- Words that single laws are stated by.
pub mod Guards
