pub mod InputRead
pub mod Performing
pub mod TopCall
pub mod Comparing
