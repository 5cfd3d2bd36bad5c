pub mod UseNumbers
pub mod UseRows
pub mod UsesText
pub mod Inner
