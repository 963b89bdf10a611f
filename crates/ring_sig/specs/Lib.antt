pub mod Signature
pub mod Padded
pub mod Laws
