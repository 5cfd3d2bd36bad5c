-- What restates the code of this crate for its proofs.
pub mod DropApplications
pub mod MergeBeforeDrop
