pub mod Apart
pub mod Countdown
pub mod Examples
pub mod Raise
pub mod Raised
pub mod Reads
