pub mod FirstTokens
pub mod FormatReader
pub mod LanguageReader
pub mod Ladder
pub mod SomeTokens
pub mod OpeningCount
