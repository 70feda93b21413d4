pub mod Together
pub mod Rows
pub mod Selected
pub mod FixParts
pub mod FunctionParts
