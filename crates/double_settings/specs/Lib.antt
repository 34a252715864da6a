pub mod Parts
pub mod Registers
pub mod Settings
