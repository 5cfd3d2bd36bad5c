-- The code of this crate, restated for its proofs. No public clause cites these.
pub mod Sweep
pub mod LaterRules
pub mod Merging
pub mod UnfinishedReduction
