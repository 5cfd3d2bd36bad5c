pub mod SingleUrgentModels
pub mod OneStepForTwo
pub mod MergedText
pub mod RulesOfMergedEdges
pub mod ConditionsAsked
pub mod PairsBetweenMerges
pub mod HollowedText
pub mod BodiesKept
