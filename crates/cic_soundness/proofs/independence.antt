-- What the check depends on.
pub mod OpaqueBodies
pub mod Formers
pub mod Terms
pub mod Calls
pub mod Evaluation
pub mod Typing
pub mod Guard
pub mod Nested
pub mod Checking
pub mod Reached
