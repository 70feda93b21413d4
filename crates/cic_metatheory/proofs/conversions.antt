-- Steps, conversion and subtyping.
pub mod Steps
pub mod Conversions
pub mod Weakening
pub mod Stability
