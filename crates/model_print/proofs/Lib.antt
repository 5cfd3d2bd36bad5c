mod WrittenOperators
mod OneEdgeLess
pub mod Putting
mod VersionLines
