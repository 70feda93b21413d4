-- Lemmas on printed terms.
pub mod Numbers
pub mod Used
pub mod Fronts
pub mod Parts
pub mod Arms
pub mod Below
pub mod Fixes
pub mod Loops
pub mod Calls
pub mod Depths
pub mod Shown
