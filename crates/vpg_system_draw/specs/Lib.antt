pub mod Arrows
pub mod Joining
pub mod Laws
pub mod Reached
pub mod Searched
pub mod SystemDrawing
pub mod Traced
