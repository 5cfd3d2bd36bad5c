pub mod Begun
pub mod Picks
pub mod PieceLaws
pub mod TargetPlaces
pub mod Truths
pub mod StoreStays
