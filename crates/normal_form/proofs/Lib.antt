pub mod DeclaredFrom
pub mod DeclarationsKept
pub mod RoundLaws
pub mod NormalLaws
