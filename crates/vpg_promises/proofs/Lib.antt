pub mod Example
pub mod Promised
