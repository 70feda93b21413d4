pub mod Lists
pub mod DeclarationBytes
pub mod DeclarationReading
pub mod Contents
pub mod ContentsReading
pub mod OpaqueHeads
pub mod calls
