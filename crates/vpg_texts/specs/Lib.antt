pub mod Changed
pub mod Labels
pub mod Picture
pub mod Plan
pub mod Scene
pub mod Text
pub mod Sights
