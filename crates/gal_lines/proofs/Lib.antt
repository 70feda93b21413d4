pub mod Cursors
pub mod Runs
pub mod Follows
pub mod Items
pub mod Tags
pub mod Wants
pub mod Counts
pub mod Commanded
