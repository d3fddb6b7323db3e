pub mod Labels
pub mod Paths
pub mod Translation
pub mod Meaning
pub mod Laws
