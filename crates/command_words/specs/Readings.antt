-- What each job reads, and what it asks of that.
use Rattle.std.specs.Prelude.{ℕ, Option, Some, None}
use Rattle.sig_base.specs.declared.limits.TheConstants.{TEXT_MAX, DOCUMENT_MAX}
use Rattle.command_words.specs.declared.job.Job.{Job}
use Rattle.command_words.specs.declared.job.Job.TheVariants as jobs
use Rattle.command_words.specs.declared.reading.BareJob.TheVariants as bare
use Rattle.command_words.specs.declared.reading.DocumentJob.TheVariants as documents
use Rattle.command_words.specs.declared.reading.ModelJob.TheVariants as models
use Rattle.command_words.specs.declared.reading.PairJob.TheVariants as pairs
use Rattle.command_words.specs.declared.reading.SavedJob.TheVariants as saved_jobs
use Rattle.command_words.specs.declared.reading.Reading.{Reading}
use Rattle.command_words.specs.declared.reading.Reading.TheVariants as readings

-- what a job reads, and what it asks of that
abbrev pub reading_of : Job → Reading
reading_of jobs.Check = readings.Model models.Check
reading_of jobs.Print = readings.Model models.Print
reading_of jobs.Reduce = readings.Model models.Reduce
reading_of jobs.Certify = readings.Document documents.Certify
reading_of jobs.Uses = readings.Model models.Uses
reading_of jobs.Conflicts = readings.Model models.Conflicts
reading_of jobs.Fuse = readings.Model models.Fuse
reading_of jobs.Narrow = readings.Model models.Narrow
reading_of jobs.Describe = readings.Model models.Describe
reading_of (jobs.Run until seed events starts room) =
    readings.Model (models.Run (record { until = until; seed = seed; events = events; starts = starts; room = room }))
reading_of (jobs.Replicate until seed events runs starts stride) =
    readings.Model (models.Replicate (record { until = until; seed = seed; events = events; runs = runs; starts = starts; stride = stride }))
reading_of (jobs.Compare until seed events starts runs) =
    readings.Pair (pairs.Compare (record { until = until; seed = seed; events = events; starts = starts; runs = runs }))
reading_of (jobs.Save until seed events starts) = readings.Model (models.Save (record { until = until; seed = seed; events = events; starts = starts }))
reading_of (jobs.Resume until events room) = readings.Saved (saved_jobs.Resume (record { until = until; events = events; room = room }))
reading_of (jobs.Trial seed vertices until events) = readings.Nothing (bare.Trial (record { seed = seed; vertices = vertices; until = until; events = events }))

-- the most bytes that the text may have: `None` of a job that reads no text
abbrev pub limit_of : Reading → Option ℕ
limit_of (readings.Model job) = Some TEXT_MAX
limit_of (readings.Document job) = Some DOCUMENT_MAX
limit_of (readings.Pair job) = Some DOCUMENT_MAX
limit_of (readings.Saved job) = Some DOCUMENT_MAX
limit_of (readings.Nothing job) = None
