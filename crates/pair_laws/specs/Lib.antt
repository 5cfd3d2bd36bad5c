pub mod Effects
pub mod Exchanges
pub mod Pairing
pub mod AgreeingEvents
pub mod PairChains
pub mod EdgesNow
