pub mod Lists
pub mod SinkLemmas
pub mod SourceLemmas
pub mod DigitsTaken
pub mod SumsSearched
pub mod Tests
