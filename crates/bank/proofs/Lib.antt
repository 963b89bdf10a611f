pub mod Attempts
pub mod Audits
pub mod Moves
pub mod Openings
pub mod Outcomes
pub mod TellerLists
pub mod Transfers
