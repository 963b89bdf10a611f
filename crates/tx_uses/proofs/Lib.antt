pub mod ApartSteps
pub mod RaiseOutcome
pub mod RaiseSteps
pub mod ReadSteps
