-- What holds between the calls of a graph on numbers, bands of numbers, edges and sets by places.
pub mod Numbered
pub mod PlaceSets
pub mod Bands
pub mod Raised
