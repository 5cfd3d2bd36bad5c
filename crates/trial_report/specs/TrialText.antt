-- The summary of a model that a number makes: how large it is, what is left of it when it is reduced, and how a run of
-- each goes.
use Rattle.std.specs.Prelude.{◌≡◌, ℕ, ◌-◌, List, [], ◌++◌, length, take, codes, decimal}
use Rattle.std.specs.List.{sum_by}
use Rattle.model_core.specs.EventGraph.{EventGraph, EventVertex}
use Rattle.model_core.specs.Run.History.{look}
use Rattle.model_core.specs.Text.HistoryText.{end_line}
use Rattle.model_core.specs.Rules.Reduction.{RuleApplication, Strategy}
use Rattle.model_gen.specs.Generated.{generated}
use Rattle.trial_report.specs.StepsMade.{steps_of_run}

-- how many edges a model has
abbrev pub edges_in : EventGraph → ℕ
edges_in g = sum_by (λ (v : EventVertex). length v.edges) g.vertices

-- how large a model is
abbrev pub size_line : List ℕ → EventGraph → List ℕ
size_line name g =
    name ++ codes " vertices " ++ decimal (length g.vertices) ++ codes " variables " ++ decimal (length g.variables) ++ codes " edges " ++ decimal (edges_in g) ++ codes "\n"

abbrev pub applications_line : ℕ → List ℕ
applications_line n = codes "applications " ++ decimal n ++ codes "\n"

-- a line without its line feed
abbrev pub without_feed : List ℕ → List ℕ
without_feed line = take (length line - 1) line

-- the standing of a run without starting values after at most so many steps, how many of them it made, and how many
-- notes its history has
abbrev pub run_line : List ℕ → EventGraph → ℕ → ℕ → ℕ → List ℕ
run_line name g seed until events =
    let seen = look g seed [] until events in
    name ++ codes " " ++ without_feed (end_line until events seen.standing) ++ codes " events " ++ decimal (steps_of_run g seed [] until events) ++ codes " notes " ++ decimal (length seen.history) ++ codes "\n"

-- the lines of a model that is reduced by so many applications, after those of its size
abbrev pub reduction_lines : EventGraph → EventGraph → ℕ → ℕ → ℕ → ℕ → List ℕ
reduction_lines original reduced applications seed until events =
    size_line (codes "reduced") reduced ++ applications_line applications
    ++ run_line (codes "original") original seed until events ++ run_line (codes "reduced") reduced seed until events

-- the summary of a model and what it is reduced to
abbrev pub summary : EventGraph → EventGraph → ℕ → ℕ → ℕ → ℕ → List ℕ
summary original reduced applications seed until events =
    size_line (codes "original") original ++ reduction_lines original reduced applications seed until events

-- the summary of the model that the number makes and of the strategy's result on it
pub record Summarises (seed vertices until events : ℕ) (out : List ℕ) : Type 0 where
  pub applications : List RuleApplication
  pub reduced : EventGraph
  pub strategy : Strategy (generated seed vertices) applications reduced
  pub written : out ≡ summary (generated seed vertices) reduced (length applications) seed until events
