-- What the parts of this crate's reader return. No public clause cites these, so a reader need not believe them.
pub mod AllFaults
pub mod ReadParts
pub mod ToEnd
pub mod ReadOperands
pub mod ReadTargets
pub mod ReadSources
pub mod ReadValues
pub mod ReadRows
pub mod ReadCarried
