mod Agreeing
pub mod Calling
pub mod Committing
pub mod Counting
pub mod Crossing
pub mod Entering
pub mod Given
pub mod Opening
pub mod Places
mod Quiet
pub mod Serials
pub mod Sheets
pub mod Stories
pub mod Swinging
