-- The code of this crate, restated for its proofs. No public clause cites these.
pub mod Beside
pub mod Faulting
pub mod Leading
pub mod Linking
pub mod MarkedTwice
pub mod Needing
pub mod StepsOfLeaving
pub mod Unwatched
