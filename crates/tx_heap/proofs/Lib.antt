pub mod ExamplesFacts
pub mod FreshSteps
pub mod FreshWrites
pub mod lemmas
pub mod OpenSteps
pub mod Pushes
