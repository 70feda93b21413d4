pub mod Codomains
pub mod Kept
pub mod Judged
pub mod Motives
pub mod Asked
