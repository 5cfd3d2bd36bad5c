pub mod Outcomes
pub mod Possible
pub mod WatchedValues
pub mod Inner
