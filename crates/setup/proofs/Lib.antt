pub mod Cuts
pub mod Last
pub mod Lined
pub mod Made
