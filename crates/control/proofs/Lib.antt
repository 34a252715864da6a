-- The lemmas behind the laws of a control loop.
pub mod Slope
pub mod Rising
pub mod Warmth
