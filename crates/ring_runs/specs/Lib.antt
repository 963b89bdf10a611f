pub mod Trace
pub mod Acts
pub mod Laws
