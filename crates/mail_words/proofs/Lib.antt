pub mod Bytes
pub mod Flat
pub mod Keys
pub mod Lemmas
pub mod Members
pub mod Order
pub mod Rising
pub mod Runs
