pub mod Moved
pub mod Offered
pub mod Sent
pub mod Taken
