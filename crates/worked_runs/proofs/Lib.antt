pub mod Looks
pub mod GrammarLaws
mod DocumentLaws
mod SnapshotLaws
