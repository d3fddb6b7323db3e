pub mod Bytes
pub mod Crash
pub mod Framing
pub mod Reading
pub mod Steps
