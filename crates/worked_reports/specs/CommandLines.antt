-- Command lines as words, the jobs that they ask for, and options of jobs.
use Rattle.std.specs.Prelude.{ℕ, ℤ, List, [], ◌==◌, Option, Some}
use Rattle.std.specs.List.{slice_split}
use Rattle.command_words.specs.declared.job.Job.{Job}
use Rattle.command_words.specs.declared.job.Job.TheVariants as jobs
use Rattle.command_words.specs.declared.reading.Reading.{Reading}
use Rattle.command_words.specs.declared.reading.Reading.TheVariants as readings
use Rattle.command_words.specs.declared.reading.BareJob.TheVariants as bare
use Rattle.command_words.specs.declared.reading.ModelJob.TheVariants as models
use Rattle.command_words.specs.declared.reading.PairJob.TheVariants as pairs
use Rattle.command_words.specs.declared.reading.SavedJob.TheVariants as saved_jobs
use Rattle.command_words.specs.Jobs.{job_of}

-- the words between blanks
abbrev pub words_in : List ℕ → List (List ℕ)
words_in line = slice_split (λ c. c == 32) line

-- the job that the words of a line ask for
abbrev pub asked : List ℕ → Option Job
asked line = job_of (words_in line)

-- a run up to this stop time, of so many events at most, with room for so many
abbrev pub a_run : ℕ → ℕ → ℕ → List ℤ → ℕ → Option Job
a_run until seed events starts room = Some (jobs.Run until seed events starts room)

-- ---- what is read, with these options

abbrev pub of_run : ℕ → ℕ → Reading
of_run until events = readings.Model (models.Run (record { until = until; seed = 18446744073709551616; events = events; starts = []; room = 4194305 }))

abbrev pub of_replicate : ℕ → ℕ → ℕ → ℕ → Reading
of_replicate until events runs stride =
    readings.Model (models.Replicate (record { until = until; seed = 18446744073709551616; events = events; runs = runs; starts = []; stride = stride }))

abbrev pub of_save : ℕ → ℕ → ℕ → Reading
of_save until seed events = readings.Model (models.Save (record { until = until; seed = seed; events = events; starts = [] }))

abbrev pub of_compare : ℕ → ℕ → ℕ → ℕ → Reading
of_compare until seed events runs = readings.Pair (pairs.Compare (record { until = until; seed = seed; events = events; starts = []; runs = runs }))

abbrev pub of_resume : ℕ → ℕ → ℕ → Reading
of_resume until events room = readings.Saved (saved_jobs.Resume (record { until = until; events = events; room = room }))

abbrev pub of_trial : ℕ → ℕ → ℕ → Reading
of_trial vertices until events = readings.Nothing (bare.Trial (record { seed = 18446744073709551616; vertices = vertices; until = until; events = events }))
