-- The grammar, in the order in which its parts stand on one another.
pub mod Tokens
pub mod Terms
pub mod Commands
pub mod Tests
pub mod Values
pub mod Actions
pub mod Kinds
pub mod Rules
pub mod Grammar
pub mod calls
