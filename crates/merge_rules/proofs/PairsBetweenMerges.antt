-- What is kept of the vertices stays right from one merge or drop to the next.
pub mod LedPlaces
pub mod PairsKept
pub mod PairsFit
pub mod PairsMoved
pub mod GrowthMoved
pub mod PairsAfterMerge
pub mod OneGone
pub mod PairsAfterDrop
