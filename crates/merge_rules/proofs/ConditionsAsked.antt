-- The conditions of a merge as the code asks them, and the first pair that keeps them all.
pub mod AllButOne
pub mod CountedEdges
pub mod OtherEdgesCalm
pub mod PairsFound
