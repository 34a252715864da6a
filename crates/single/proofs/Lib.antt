pub mod Noted
pub mod Stored
