pub mod Grown
pub mod Moving
pub mod Stepped
pub mod Showing
pub mod Whole
pub mod Fitting
pub mod There
pub mod Told
