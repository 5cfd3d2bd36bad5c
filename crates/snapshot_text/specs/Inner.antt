-- Definitions that restate the code for its proofs. You don't have to believe them.
pub mod Skimming
pub mod SomeParts
pub mod Lines
pub mod RawParts
pub mod SnapshotHead
pub mod Judging
