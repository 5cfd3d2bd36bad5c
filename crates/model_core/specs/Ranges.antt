-- Ranges that a model really needs, in reading order.
pub mod OtherRanges
pub mod Refined
pub mod BoundsIn
pub mod Incoming
pub mod Inductive
pub mod Inference
pub mod Narrowed
