pub mod Answering
pub mod Laws
pub mod Taking
pub mod Telling
pub mod Texts
pub mod Traces
pub mod Walks
