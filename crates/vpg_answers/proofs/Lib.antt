pub mod Adding
pub mod One
pub mod Told
pub mod Topics
