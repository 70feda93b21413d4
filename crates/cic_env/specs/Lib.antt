pub mod Declarations
pub mod Items
pub mod Entries
pub mod NewIds
pub mod Environments
pub mod Readers
pub mod Contexts
pub mod calls
