pub mod Conclusions
pub mod Eliminations
pub mod calls
