-- Laws of the check of axioms of the language: what it answers, and why it refuses.
pub mod Contexts
pub mod Lookups
pub mod Evaluation
pub mod TypesOfTerms
pub mod Declarations
pub mod Causes
