-- Counted calls: their budgets and steps.
pub mod Compositional
pub mod Evaluation
pub mod Typing
pub mod Checking
pub mod Raised
pub mod Steps
pub mod Accepted
