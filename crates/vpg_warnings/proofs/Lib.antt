pub mod Numbered
pub mod Refuted
pub mod Unreached
