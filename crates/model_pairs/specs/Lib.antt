pub mod Inner
pub mod DeclaredApart
pub mod LinesOfTexts
pub mod RunsApart
