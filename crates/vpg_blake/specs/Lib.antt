pub mod Blake
pub mod Sharp
pub mod Tables
pub mod Laws
