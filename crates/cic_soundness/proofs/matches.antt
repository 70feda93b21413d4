-- Matches, as inference reads them.
pub mod Instantiate
pub mod Forms
pub mod Contexts
pub mod BranchGoals
pub mod Laws
