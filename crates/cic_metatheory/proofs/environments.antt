-- What ids stand for in an environment, and what it shows.
pub mod Declared
pub mod Mentions
pub mod Blocks
pub mod Order
pub mod Growing
pub mod Lookups
pub mod ClosedLookups
