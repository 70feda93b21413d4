-- The grammar of sources, and what the parser answers.
pub mod Tokens
pub mod Grammar
pub mod Answers
pub mod Views
pub mod calls
