pub mod MovedNumbers
pub mod NotedRows
