pub mod KnownLengths
pub mod FactsOfModel
pub mod FactsAfterEdge
pub mod FactsAfterDrop
pub mod NothingCounted
pub mod Progress
pub mod Inner
