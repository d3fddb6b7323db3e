pub mod Sweeps
pub mod Repeated
pub mod Often
pub mod Settled
