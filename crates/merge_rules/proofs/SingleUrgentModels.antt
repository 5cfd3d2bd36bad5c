-- In a single urgent model at most one event is urgent, it is due at the clock, and a merge leaves the model so.
pub mod InsertedEntry
pub mod UrgentEvents
pub mod SingleUrgent
pub mod AtMostOneUrgent
pub mod SettledSteps
pub mod PlainEdges
pub mod OneUrgentLess
pub mod SingleKept
