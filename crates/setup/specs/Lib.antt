pub mod Cutting
pub mod LastLine
pub mod Lines
pub mod Reading
pub mod Verdict
pub mod WellMade
