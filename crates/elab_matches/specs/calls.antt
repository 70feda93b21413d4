-- What the calls answer.
pub mod Tables
pub mod Branches
pub mod Cases
