pub mod Countdowns
pub mod Work
