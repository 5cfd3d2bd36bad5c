pub mod Lexemes
pub mod PieceViews
pub mod PiecesOfText
pub mod LexemeSets
pub mod TokenOrder
pub mod TextCut
pub mod Inner
