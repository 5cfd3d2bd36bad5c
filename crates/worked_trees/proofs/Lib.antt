pub mod ComputedTrees
