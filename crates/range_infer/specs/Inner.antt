-- The code of this crate, restated for its proofs. No public clause cites these.
pub mod RangesLeft
pub mod RangeTests
pub mod GrownBy
pub mod Postfix
pub mod KeptRanges
pub mod PartReads
pub mod Readers
pub mod Moved
pub mod LookedAt
