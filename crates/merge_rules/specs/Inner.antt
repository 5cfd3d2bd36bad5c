-- The code of this crate, restated for its proofs. No public clause cites these.
pub mod PairMoves
pub mod ReadingEdges
