pub mod Attempts
pub mod ExamplesFacts
pub mod Known
pub mod Opens
pub mod Seats
pub mod Steps
pub mod Views
pub mod Whole
