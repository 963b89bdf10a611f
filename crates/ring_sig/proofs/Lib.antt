pub mod Words
pub mod Places
pub mod Shared
pub mod Sets
pub mod Arrays
pub mod Lemmas
