pub mod Arguments
pub mod ArgumentValues
pub mod Jobs
pub mod Readings
pub mod KeptLimits
pub mod Inner
