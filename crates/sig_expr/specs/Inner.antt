-- Definitions that restate the code for its proofs: you don't have to believe them.
pub mod Pieces
pub mod Placed
