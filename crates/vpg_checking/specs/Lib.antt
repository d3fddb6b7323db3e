pub mod Behaviours
pub mod Checking
pub mod Faults
pub mod Texts
