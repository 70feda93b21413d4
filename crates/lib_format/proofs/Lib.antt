pub mod Behind
pub mod ListLaws
pub mod DeclarationLaws
pub mod ContentsLaws
pub mod OpaqueLaws
pub mod Stated
pub mod Shown
