-- The words of the contracts on universe constraints, numberings and cycles.
pub mod Kept
pub mod calls
