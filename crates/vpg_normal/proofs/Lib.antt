pub mod Chains
pub mod Formed
pub mod Lists
pub mod Nearest
pub mod Passes
pub mod Placed
pub mod Ranked
pub mod Sizes
