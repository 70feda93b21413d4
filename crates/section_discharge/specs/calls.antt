-- Words that state contracts of calls.
pub mod Tables
pub mod Binders
pub mod Parts
