pub mod SettledGames
pub mod OpenVertices
pub mod ReachedGames
