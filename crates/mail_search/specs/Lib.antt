pub mod Answers
pub mod CommandLine
pub mod Examples
pub mod Notes
pub mod Outcome
pub mod Replays
pub mod Reports
pub mod Statuses
