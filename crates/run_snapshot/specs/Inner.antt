-- Definitions that restate the code for its proofs. You don't have to believe them.
pub mod NotedValues
