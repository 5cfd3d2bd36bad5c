pub mod PageWords
pub mod PageCall
