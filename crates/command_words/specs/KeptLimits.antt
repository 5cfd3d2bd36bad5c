-- The limits of each job. A law says that words ask for nothing beyond them.
use Rattle.std.specs.Prelude.{◌<◌, ◌≤◌, ◌^◌}
use Rattle.sig_base.specs.declared.limits.TheConstants.{STOP_MAX, EVENTS_MAX, RUNS_MAX}
use Rattle.command_words.specs.declared.reading.BareJob.TheVariants as bare
use Rattle.command_words.specs.declared.reading.ModelJob.TheVariants as models
use Rattle.command_words.specs.declared.reading.PairJob.TheVariants as pairs
use Rattle.command_words.specs.declared.reading.SavedJob.TheVariants as saved_jobs
use Rattle.command_words.specs.declared.reading.Reading.{Reading}
use Rattle.command_words.specs.declared.reading.Reading.TheVariants as readings
use Rattle.command_words.specs.declared.run_options.TheConstants.{ROOM_MAX}
use Rattle.command_words.specs.declared.trial_options.TheConstants.{VERTICES_MADE_MAX}

-- the stop time and the event budget of a run, how many runs there are and how far their seeds are apart, how many vertices a made
-- model has, the seed of runs that are saved or compared, and the room of one that goes on
abbrev pub KeepsLimits : Reading → Type 0
KeepsLimits (readings.Model (models.Run options)) = (options.until ≤ STOP_MAX) × (options.events ≤ EVENTS_MAX)
KeepsLimits (readings.Model (models.Replicate options)) =
    (options.until ≤ STOP_MAX) × (options.events ≤ EVENTS_MAX) × (1 ≤ options.runs) × (options.runs ≤ RUNS_MAX) × (1 ≤ options.stride) × (options.stride < 2 ^ 64)
KeepsLimits (readings.Model (models.Save options)) =
    (options.until ≤ STOP_MAX) × (options.seed < 2 ^ 64) × (options.events ≤ EVENTS_MAX)
KeepsLimits (readings.Pair (pairs.Compare options)) =
    (options.until ≤ STOP_MAX) × (options.seed < 2 ^ 64) × (options.events ≤ EVENTS_MAX) × (1 ≤ options.runs) × (options.runs ≤ RUNS_MAX)
KeepsLimits (readings.Saved (saved_jobs.Resume options)) =
    (options.until ≤ STOP_MAX) × (options.events ≤ EVENTS_MAX) × (options.room ≤ ROOM_MAX)
KeepsLimits (readings.Nothing (bare.Trial options)) =
    (1 ≤ options.vertices) × (options.vertices ≤ VERTICES_MADE_MAX) × (options.until ≤ STOP_MAX) × (options.events ≤ EVENTS_MAX)
KeepsLimits reading = Unit {0}
