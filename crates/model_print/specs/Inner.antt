-- What the pens of this crate do, for its proofs. No public clause cites it, so a reader need not believe it.
pub mod Pens
