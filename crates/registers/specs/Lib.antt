pub mod Roles
pub mod Settings
pub mod Tables
