pub mod ConflictText
pub mod Inner
