-- The code of this crate, restated for its proofs. No public clause cites these, and no reader has to believe them.
pub mod Refusals
pub mod RunSteps
pub mod SaveSteps
pub mod ReportSteps
pub mod StartSteps
pub mod TextFacts
pub mod WritingSteps
