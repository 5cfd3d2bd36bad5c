-- What the code of this crate keeps, for its proofs. No public clause cites these.
pub mod HasFewerBytes
