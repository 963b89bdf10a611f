pub mod Maps
pub mod Members
pub mod Rows
pub mod ReadSteps
pub mod AskSteps
pub mod SentSteps
pub mod lemmas
