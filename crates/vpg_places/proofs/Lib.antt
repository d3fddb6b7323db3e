pub mod Columns
pub mod Feeds
