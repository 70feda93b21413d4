pub mod Spelling
pub mod Storable
pub mod Reading
pub mod ConstraintReading
pub mod TermReading
pub mod calls
