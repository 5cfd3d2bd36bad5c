pub mod RangeVerdicts
pub mod Inner
