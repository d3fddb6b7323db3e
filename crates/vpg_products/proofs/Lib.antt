pub mod Rules
pub mod Growth
