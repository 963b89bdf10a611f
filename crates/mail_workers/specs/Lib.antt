pub mod Examples
pub mod Indexing
pub mod IndexingExamples
pub mod JobPasses
pub mod Jobs
pub mod Leaving
pub mod Workers
