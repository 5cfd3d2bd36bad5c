pub mod ResumedRun
pub mod Inner
