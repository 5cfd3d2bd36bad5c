pub mod Formats
pub mod OpeningLaws
pub mod ReadLoop
mod FirstOperator
pub mod OperandLevels
pub mod DelayForms
mod LevelOperators
pub mod OperatorsInTurn
