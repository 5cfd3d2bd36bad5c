pub mod SmallModel
