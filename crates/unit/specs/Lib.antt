pub mod Answers
pub mod Calls
pub mod Kind
pub mod Levels
pub mod Order
pub mod Parts
pub mod Steps
