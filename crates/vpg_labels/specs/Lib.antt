pub mod Labels
pub mod Labelling
