pub mod Answered
pub mod AskedFor
pub mod Noted
pub mod Lines
pub mod Listed
pub mod Sent
pub mod Words
pub mod Worked
