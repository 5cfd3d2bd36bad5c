pub mod KeptPairs
pub mod Inner
pub mod PairFits
pub mod Growth
pub mod Hollowed
pub mod UrgentVertices
