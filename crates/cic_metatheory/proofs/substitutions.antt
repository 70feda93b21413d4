-- Renaming, substitution and lifting.
pub mod Composition
pub mod LiftAndSubst
pub mod Commuting
pub mod Telescopes
pub mod Contexts
