pub mod Hotter
