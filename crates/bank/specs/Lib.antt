pub mod Audit
pub mod Bank
pub mod Day
pub mod Examples
pub mod Tellers
pub mod Transfer
