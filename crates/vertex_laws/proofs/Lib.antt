pub mod PlacedElement
pub mod ReadElement
pub mod ApartVertices
pub mod NeededVersion
pub mod ChangedLines
pub mod MergedNames
