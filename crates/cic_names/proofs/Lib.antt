pub mod Blocks
pub mod ByteStrings
pub mod OrderLaws
pub mod Equality
pub mod Clones
pub mod TextExamples
pub mod IdTexts
