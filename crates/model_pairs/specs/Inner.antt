pub mod BothSeen
pub mod WrittenRuns
