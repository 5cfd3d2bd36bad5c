-- Options of many runs, of comparisons and of runs that are saved, and saved runs that are to go on.
use Rattle.std.specs.Prelude.{ℕ, ℤ, pos, List, [], ◌∷◌, replicate}
use Rattle.command_words.specs.declared.compare_options.CompareOptions.{CompareOptions}
use Rattle.command_words.specs.declared.replicate_options.ReplicateOptions.{ReplicateOptions}
use Rattle.command_words.specs.declared.resume_options.ResumeOptions.{ResumeOptions}
use Rattle.command_words.specs.declared.save_options.SaveOptions.{SaveOptions}
use Rattle.model_core.specs.Saved.SavedRun.{SavedRun}
use Rattle.worked_runs.specs.SavedExamples.{due, saved_clock}

-- up to 12, so many runs from this seed on, this stride apart
abbrev pub replicating : ℕ → ℕ → ℕ → ReplicateOptions
replicating seed runs stride = record { until = 12; seed = seed; events = 100; runs = runs; starts = []; stride = stride }

-- up to this time, so many runs of at most nine events each
abbrev pub comparing : ℕ → ℕ → CompareOptions
comparing until runs = record { until = until; seed = 42; events = 9; starts = []; runs = runs }

-- with a starting value
abbrev pub comparing_from_five : CompareOptions
comparing_from_five = record { until = 16; seed = 42; events = 9; starts = pos 5 ∷ []; runs = 1 }

abbrev pub saving : ℕ → ℕ → ℕ → List ℤ → SaveOptions
saving until seed events starts = record { until = until; seed = seed; events = events; starts = starts }

abbrev pub resuming : ℕ → ℕ → ℕ → ResumeOptions
resuming until events room = record { until = until; events = events; room = room }

-- the clock at 5, after so many events
abbrev pub after_events : ℕ → SavedRun
after_events events = record saved_clock { events = events }

-- the clock at 5, with so many events pending at 10
abbrev pub with_many_pending : ℕ → SavedRun
with_many_pending count = record saved_clock { pending = replicate count (due 10 5 0) }
