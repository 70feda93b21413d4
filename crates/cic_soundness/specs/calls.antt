-- Words that single laws are stated by.
pub mod FixParts
pub mod PlainGuard
