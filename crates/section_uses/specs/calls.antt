-- Words that state contracts of calls.
pub mod Closing
pub mod Layers
