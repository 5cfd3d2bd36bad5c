-- The result of a merge as a text: it keeps the static rules, and how long it is.
pub mod ValidMerged
pub mod VersionMerged
pub mod MergedLength
pub mod GrownTexts
pub mod LimitsTested
