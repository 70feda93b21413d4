-- Lemmas on level names, numbers of levels, walks and cycles.
pub mod LevelNumbers
pub mod NameTable
pub mod Kept
pub mod Cycles
pub mod TagClones
pub mod WalkLaws
pub mod PathTable
