-- Words by which proofs speak of the counted functions, and the declarations of the worked examples.
pub mod Done
pub mod DoneTyping
pub mod Examples
pub mod NestedExamples
pub mod EtaExamples
