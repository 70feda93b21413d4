pub mod NewIds
pub mod Judgement
