pub mod Based
pub mod Reported
pub mod Shown
