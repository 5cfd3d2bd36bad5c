-- The code of this crate, restated for its proofs. No public clause cites these, so a reader need not believe them.
pub mod LineFormats
pub mod Cancels
pub mod Versions
pub mod CountedTokens
pub mod PieceSorts
