pub mod StateFacts
pub mod Compare
pub mod Walks
pub mod Checks
pub mod Later
pub mod HeapLoad
pub mod Stages
pub mod Steps
