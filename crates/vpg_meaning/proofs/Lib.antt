mod Plain
pub mod Labels
mod Substitution
mod Paths
mod Modalities
mod Words
mod Naming
mod Meaning
mod Spelled
