pub mod Placing
pub mod Ranks
pub mod Scopes
pub mod Sizes
pub mod Standing
