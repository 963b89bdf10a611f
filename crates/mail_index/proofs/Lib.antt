pub mod Ended
pub mod Opened
pub mod Tables
pub mod lemmas
