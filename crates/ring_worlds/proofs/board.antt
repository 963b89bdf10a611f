pub mod Guards
pub mod Stores
pub mod Owns
