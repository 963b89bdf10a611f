-- What crates above may cite, one file a subject.
pub mod Buckets
pub mod Chains
pub mod Growth
pub mod Lists
pub mod Opened
pub mod Segments
pub mod Writes
