-- The code of this crate, restated for its proofs. No public clause cites these, and no reader has to believe them.
pub mod CallSteps
