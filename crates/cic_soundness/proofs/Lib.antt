-- The proofs of the laws of the check, by subject.
pub mod counting
pub mod independence
pub mod evaluations
pub mod inferences
pub mod matches
pub mod fixpoints
pub mod exactness
pub mod expansion
pub mod blocks
pub mod declarations
