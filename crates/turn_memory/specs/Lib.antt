pub mod Examples
pub mod Heap
pub mod Lock
pub mod TurnPass
