-- What the calls answer that read, compile, print and reply.
pub mod Lines
pub mod Compiling
pub mod Sources
pub mod Reading
pub mod Replying
