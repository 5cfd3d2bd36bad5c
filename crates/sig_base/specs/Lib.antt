pub mod Faults
pub mod Source
pub mod Sink
pub mod Memory
pub mod Rows
pub mod Stream
pub mod RunningSums
