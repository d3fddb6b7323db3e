pub mod Determined
pub mod Plays
pub mod ProductLaws
