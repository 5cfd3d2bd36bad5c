-- A measure of a run, and the run itself.
use Rattle.std.specs.Prelude.{◌≡◌, ℕ, List, [], ◌++◌, length, codes, decimal}
use Rattle.model_core.specs.EventGraph.{EventGraph}
use Rattle.model_core.specs.Run.History.{look}
use Rattle.model_core.specs.Text.HistoryText.{fault_word}
use Rattle.watch_trace.specs.declared.outcome.Outcome.{Outcome}
use Rattle.watch_trace.specs.declared.outcome.Outcome.TheVariants as outcomes
use Rattle.watch_trace.specs.Following.{outcome_of}
use Rattle.trial_report.specs.StepsMade.{steps_of_run}
use Rattle.trial_report.specs.declared.run_measure.RunMeasure.{RunMeasure}

-- the standing of a run of this outcome, in words
abbrev pub standing_text : ℕ → ℕ → Outcome → List ℕ
standing_text until events (outcomes.Ended time) = codes "ended " ++ decimal time
standing_text until events outcomes.Stopped = codes "stopped " ++ decimal until
standing_text until events (outcomes.Faulted time kind) = codes "fault " ++ decimal time ++ codes " " ++ fault_word kind
standing_text until events outcomes.Budget = codes "budget " ++ decimal events
standing_text until events other = []

-- the line of a measure
abbrev pub measure_line : List ℕ → ℕ → ℕ → RunMeasure → List ℕ
measure_line name until events m =
    name ++ codes " " ++ standing_text until events m.outcome ++ codes " events " ++ decimal m.events ++ codes " notes " ++ decimal m.notes ++ codes "\n"

-- it has the standing of the run of the graph, how many steps it made, and how many notes there are
pub record IsMeasureOf (g : EventGraph) (seed until events : ℕ) (m : RunMeasure) : Type 0 where
  pub outcome : m.outcome ≡ outcome_of (look g seed [] until events).standing
  pub made : m.events ≡ steps_of_run g seed [] until events
  pub noted : m.notes ≡ length (look g seed [] until events).history
