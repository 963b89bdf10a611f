pub mod Examples
pub mod Indexed
