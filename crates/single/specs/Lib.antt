pub mod Kinds
pub mod Meaning
pub mod Registers
pub mod Settings
pub mod Sources
pub mod Written
pub mod Laws
