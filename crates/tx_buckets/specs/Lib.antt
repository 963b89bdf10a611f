pub mod Examples
pub mod Growth
pub mod Reading
pub mod Records
pub mod Writing
