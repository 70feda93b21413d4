-- What the laws of the check speak of, beside the rules and the check.
pub mod Budgets
pub mod OpaqueBodies
pub mod FirstFaults
pub mod FoundSorts
pub mod Occurrences
pub mod WithoutEta
pub mod calls
