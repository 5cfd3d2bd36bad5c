pub mod NamesSpelled
pub mod ExactNumbers
pub mod SnapshotLines
pub mod SnapshotWrites
pub mod RunSpelled
pub mod SnapshotReadsBack
mod WholeSnapshots
mod DigitsRead
mod FittingValues
mod JudgedParts
mod PassingOver
mod PrintedLines
mod WrittenValues
