pub mod PairsOfTwins
pub mod Shuffled
pub mod AskedKinds
