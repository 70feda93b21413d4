pub mod ReadItems
pub mod WrittenItems
pub mod Writable
pub mod Stored
pub mod Digests
pub mod Heads
