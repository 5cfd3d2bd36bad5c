pub mod EdgeRules
pub mod Inner
