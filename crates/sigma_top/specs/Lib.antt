pub mod StatusTable
pub mod Promises
pub mod Comparisons
pub mod Inner
