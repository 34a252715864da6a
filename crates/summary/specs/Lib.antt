pub mod Holdings
