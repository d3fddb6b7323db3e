pub mod Spelled
pub mod Entries
pub mod PlainGames
pub mod SameWinners
pub mod Tops
pub mod Parts
pub mod Marked
pub mod ReachedWinners
