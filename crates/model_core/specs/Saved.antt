-- What is kept of a run that is stopped, and that it goes on as the whole run does, in reading order.
pub mod Cells
pub mod DueOrder
pub mod SavedRun
pub mod GoodSnapshots
pub mod GoingOn
pub mod Resuming
