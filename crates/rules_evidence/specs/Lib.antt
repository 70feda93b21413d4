-- The words of the evidence: the worked environment, and what a match says of its parts.
pub mod Counting
pub mod Matches
