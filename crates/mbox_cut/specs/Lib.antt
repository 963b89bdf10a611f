pub mod Cutting
pub mod Examples
pub mod Exactly
pub mod Lines
pub mod Mbox
pub mod Spans
