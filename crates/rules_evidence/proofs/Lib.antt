-- The proofs of the examples and of the refusals.
pub mod Membership
pub mod Closure
pub mod CountingDerived
pub mod NotDerivable
pub mod OwnRules
pub mod NoTypes
