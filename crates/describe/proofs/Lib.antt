pub mod ArrayPhrases
pub mod Assignments
pub mod PiecesAdded
