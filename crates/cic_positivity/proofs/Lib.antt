pub mod Walks
pub mod ShapeLemmas
pub mod OccurringIds
