pub mod PlacePairs
