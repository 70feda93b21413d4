pub mod CharacterLemmas
pub mod CommentLemmas
pub mod WordLemmas
pub mod PieceLemmas
pub mod OnceLemmas
pub mod SourceLemmas
pub mod NameLemmas
