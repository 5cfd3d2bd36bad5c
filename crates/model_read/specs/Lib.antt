pub mod InText
pub mod Beginnings
pub mod ReadCalls
pub mod Infixes
pub mod Spelled
pub mod Sources
pub mod NamesPlaced
pub mod Inner
