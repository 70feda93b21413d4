pub mod Replacing
pub mod Discharging
pub mod Uses
pub mod Keeping
pub mod Twice
pub mod Inner
