-- What a control loop means, what holds of it, and its worked examples.
pub mod Range
pub mod Loop
pub mod Laws
pub mod State
pub mod Examples
