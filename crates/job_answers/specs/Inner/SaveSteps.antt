-- The clauses between the steps of `save`: what is saved of a run, if it goes on.
use Rattle.std.specs.Prelude.{◌≡◌, ℕ, ℤ, List, Option, Some, None}
use Rattle.model_core.specs.EventGraph.{EventGraph}
use Rattle.model_core.specs.Run.Machine.{Going, Reached}
use Rattle.model_core.specs.Run.History.{Moment, start, look, reached_from}
use Rattle.model_core.specs.Saved.SavedRun.{SavedRun, saved}

-- what is saved of the moment that so many events lead to, where the run goes on; and else nothing
abbrev pub SavedOrFinished : EventGraph → ℕ → ℕ → ℕ → List ℤ → Option SavedRun → Type 0
SavedOrFinished g until seed events starts (Some s) =
    ((look g seed starts until events).standing ≡ Going) × ((r : Reached Moment) × (reached_from g seed until events (start g starts) ≡ Some r) × (s ≡ saved seed events r.moment))
SavedOrFinished g until seed events starts None = (look g seed starts until events).standing ≡ Going → ⊥
