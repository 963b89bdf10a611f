pub mod AddSteps
pub mod FindSteps
pub mod InsertSteps
pub mod lemmas
pub mod Placing
pub mod PlacingCells
pub mod ReadSteps
pub mod Search
