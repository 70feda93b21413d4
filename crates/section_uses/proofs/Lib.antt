pub mod Membership
pub mod Noted
pub mod Seeing
pub mod Closed
pub mod Inserted
