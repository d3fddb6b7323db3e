pub mod Elements
pub mod Tokens
pub mod Nesting
pub mod Faults
pub mod Reading
pub mod View
