pub mod BinaryLength
pub mod Inner
