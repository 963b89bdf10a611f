pub mod Asking
pub mod Complete
pub mod Examples
pub mod Hits
pub mod Lists
pub mod Reading
pub mod Sending
pub mod Sent
