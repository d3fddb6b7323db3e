pub mod Growing
pub mod Stepping
