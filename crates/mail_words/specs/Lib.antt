pub mod Hash
pub mod Key
pub mod Lists
pub mod Words
