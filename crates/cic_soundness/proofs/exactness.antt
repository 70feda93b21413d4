-- The tests of blocks, eliminations and fixpoints are exact, and name the first place.
pub mod Shape
pub mod Nested
pub mod Positivity
pub mod Elimination
pub mod Guard
pub mod FirstGuardFault
pub mod FirstPositivityFault
pub mod FirstShapeFault
