pub mod Lookups
pub mod Newness
pub mod Cuts
pub mod DistinctIds
pub mod Examples
