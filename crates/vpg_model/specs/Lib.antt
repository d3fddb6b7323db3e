pub mod Departures
pub mod Forms
pub mod Laws
pub mod Pairs
pub mod Searching
pub mod Sharpening
pub mod Sources
