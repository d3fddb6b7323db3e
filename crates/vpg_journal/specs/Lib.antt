pub mod Batch
pub mod Frames
pub mod Head
pub mod Journal
