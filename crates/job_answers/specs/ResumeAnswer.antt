-- What `resume` answers for a model and a saved run of it: the history from there on, or why there is none.
use Rattle.std.specs.Prelude.{ℕ, ◌+◌, nat_lt, max, if◌then◌else◌, List, ◌++◌, length, codes, decimal, Option, Some, None}
use Rattle.sig_base.specs.declared.limits.TheConstants.{EVENTS_MAX}
use Rattle.command_words.specs.declared.resume_options.ResumeOptions.{ResumeOptions}
use Rattle.model_core.specs.EventGraph.{EventGraph}
use Rattle.model_core.specs.Saved.SavedRun.{SavedRun, saved_moment, history_from}
use Rattle.answer_delivery.specs.declared.answer.Answer.{Answer}
use Rattle.job_answers.specs.RunAnswer.{answer_of_look, refused_or, ExceedsRoomFrom}

-- ---- the answer

-- the line for a stop time before the clock of the saved run
abbrev pub below_clock_line : ℕ → List ℕ
below_clock_line clock = codes "sigma: stop time below clock " ++ decimal clock ++ codes "\n"

-- the line for more events than a run can have, those that were saved included
abbrev pub too_many_events : List ℕ
too_many_events = codes "sigma: too many events\n"

-- why a saved run can't go on up to a stop time, for so many events
abbrev pub resume_refusal : SavedRun → ℕ → ℕ → Option (List ℕ)
resume_refusal s until events =
    if nat_lt until s.clock then Some (below_clock_line s.clock)
    else (if nat_lt EVENTS_MAX (s.events + events) then Some too_many_events else None)

-- what `resume` answers for a model and a saved run of it
abbrev pub resume_answer : EventGraph → SavedRun → ℕ → ℕ → Answer
resume_answer g s until events = refused_or (resume_refusal s until events) (answer_of_look g until events (history_from g s until events))

-- a run that goes on exceeds its room, which is that for all pending events at least
abbrev pub ResumedExceedsRoom : EventGraph → SavedRun → ResumeOptions → Type 0
ResumedExceedsRoom g s o = ExceedsRoomFrom g o.until s.seed o.events (saved_moment g s) (max o.room (length s.pending))
