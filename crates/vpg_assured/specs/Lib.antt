pub mod Assured
pub mod Parted
pub mod Traced
