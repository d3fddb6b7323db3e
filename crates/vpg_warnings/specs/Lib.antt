pub mod Numbers
pub mod States
pub mod Guards
pub mod Actions
