mod AnswerTerms
mod ModelTerms
pub mod Complaining
pub mod StartLaws
pub mod HistoryLaws
pub mod Streaming
pub mod GivenAnswers
mod ComparedLaws
mod DocumentOutcome
mod FaultLaws
mod FrontOutcome
mod GoodRuns
mod JobLaws
mod PairOutcome
mod PassedOn
mod PiecesWritten
mod SavedModels
mod SavedOutcome
mod Showing
mod SnapshotKinds
mod SnapshotShown
mod ErrorComplaints
mod TokensLeft
mod TakenStarts
