-- The words of the contracts on tagged constraints and numbers of levels.
pub mod Numbers
pub mod calls
