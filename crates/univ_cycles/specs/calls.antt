-- What holds between the calls of a graph on walks and level names.
pub mod Walks
pub mod Places
