pub mod Adding
pub mod Laws
pub mod Told
pub mod Topics
