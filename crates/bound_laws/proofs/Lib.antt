pub mod BeginsInRange
pub mod Soundness
pub mod NoGuard
pub mod LiteralValues
