pub mod Assured
pub mod Moved
pub mod Parted
pub mod Replied
pub mod Stepped
pub mod Traced
pub mod Walked
