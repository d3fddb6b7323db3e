pub mod Configurations
pub mod Deciding
pub mod Documents
pub mod Exports
pub mod Forms
pub mod Laws
