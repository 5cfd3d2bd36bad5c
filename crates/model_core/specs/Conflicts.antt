-- Which simultaneous events need priorities, in reading order.
pub mod Priorities
pub mod Conflict
pub mod ConflictPairs
pub mod Perform
pub mod Orders
