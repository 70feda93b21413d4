pub mod Bytes
pub mod NameLaws
pub mod ConstraintLaws
pub mod TermsRead
pub mod TermsSpelled
pub mod Stated
pub mod ExampleNames
pub mod Shown
