pub mod Kept
pub mod Rounds
