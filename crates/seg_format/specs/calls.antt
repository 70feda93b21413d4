pub mod Rows
pub mod Lending
pub mod Views
pub mod Packing
