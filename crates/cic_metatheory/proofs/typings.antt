-- Typing: substitution, generation, validity.
pub mod Typing
pub mod Weakening
pub mod ProductParts
pub mod ProductSorts
pub mod Scopes
pub mod Instances
pub mod InstancesTogether
pub mod Validity
pub mod Functions
