pub mod Counted
pub mod Limits
pub mod Offered
pub mod Parts
pub mod Served
