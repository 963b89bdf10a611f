pub mod Gates
pub mod Plain
pub mod Rule
pub mod Kept
pub mod Examples
