-- What crates above may cite, one file a subject.
pub mod Listed
pub mod Moves
pub mod Once
