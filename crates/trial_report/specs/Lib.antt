pub mod StepsMade
pub mod TrialText
pub mod Inner
