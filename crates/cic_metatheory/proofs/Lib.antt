-- The proofs of the laws of the rules, by subject.
pub mod basics
pub mod substitutions
pub mod conversions
pub mod typings
pub mod guards
pub mod environments
