pub mod Turns
pub mod StepCode
pub mod Contents
pub mod Pieces
pub mod Faulty
