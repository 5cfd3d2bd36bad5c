pub mod Unreadable
pub mod PrintedAndReduced
