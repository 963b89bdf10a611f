pub mod lemmas
pub mod board
pub mod reads
pub mod memory
pub mod worlds
