mod StepsCounted
mod FewNotes
mod MeasuredRuns
mod EdgesCounted
mod SummaryLines
mod Appending
