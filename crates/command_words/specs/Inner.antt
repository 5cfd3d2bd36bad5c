-- The code of this crate, restated for its proofs. No public clause cites these, so a reader need not believe them.
pub mod Asking
pub mod ClapCommand
pub mod MatchedJobs
