pub mod Sooner
pub mod DueSorted
pub mod SortedWithoutAll
pub mod SortedTakenOff
pub mod InDueOrder
pub mod AlikeSteps
pub mod AlikeRuns
