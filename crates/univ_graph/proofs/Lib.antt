-- Lemmas on numberings, chains and cycles.
pub mod Spreading
pub mod WalkingBack
pub mod Raising
pub mod Soundness
pub mod LevelLists
pub mod Wholes
pub mod PlanLaws
pub mod Shifting
pub mod SearchLaws
pub mod MovingLaws
pub mod MergeLaws
pub mod JoinLaws
pub mod ListedEdges
