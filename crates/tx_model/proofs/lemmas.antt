-- What crates above may cite, one file a subject.
pub mod Attempts
pub mod Calls
pub mod Gates
pub mod Histories
pub mod Holders
pub mod Lists
pub mod Memories
pub mod Passes
pub mod Regions
pub mod Rule
pub mod Stamps
pub mod States
pub mod Stops
pub mod Values
pub mod WordIndexes
