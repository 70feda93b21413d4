pub mod Lists
pub mod Optional
pub mod Several
pub mod Fixes
pub mod calls
