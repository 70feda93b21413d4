-- The counted functions with eta for functions and without.
pub mod Calls
pub mod Checking
pub mod Conversion
