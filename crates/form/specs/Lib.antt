pub mod Forms
pub mod Spelling
