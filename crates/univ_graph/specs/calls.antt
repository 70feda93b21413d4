-- What holds of the parts of a graph between its calls.
pub mod Boards
pub mod Moves
pub mod Plans
pub mod Joins
pub mod Merges
