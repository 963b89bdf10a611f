pub mod Stops
pub mod Traces
pub mod Outcome
pub mod Examples
