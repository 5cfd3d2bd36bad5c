pub mod RoomForSums
pub mod NarrowNumbers
pub mod ScaledNumbers
pub mod DivisorsFit
