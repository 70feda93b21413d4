pub mod Marks
pub mod Words
pub mod Comments
pub mod Pieces
pub mod Tokens
pub mod calls
