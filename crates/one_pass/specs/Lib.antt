pub mod ReadModel
pub mod Inner
