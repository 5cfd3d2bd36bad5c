-- The heart of the rule: one step of the merged model does what two steps do, so that a merge keeps the meaning.
pub mod EdgesAside
pub mod UndrawnEdges
pub mod Unwritten
pub mod TwoInOne
pub mod MergedRuns
pub mod MergedModels
pub mod MergeHolds
pub mod MergeNeeds
pub mod MergeResult
