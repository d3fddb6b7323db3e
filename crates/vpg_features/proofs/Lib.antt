pub mod Held
pub mod Noted
