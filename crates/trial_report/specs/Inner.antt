-- Definitions that restate this crate's code for its proofs. No public clause cites them; you don't have to believe
-- them.
pub mod Counted
pub mod RunMeasures
