-- The code of this crate, restated for its proofs. No public clause cites these.
pub mod ComparedPairs
pub mod Fingerprints
pub mod MarkedVertices
pub mod KeptFingerprints
pub mod KeptRows
pub mod LedTo
