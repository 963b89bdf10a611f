pub mod Elements
pub mod Kinds
pub mod Lists
pub mod Members
pub mod Outcomes
