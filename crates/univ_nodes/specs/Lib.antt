-- The words of the contracts on numbers, edges and sets by places.
pub mod Limits
pub mod calls
