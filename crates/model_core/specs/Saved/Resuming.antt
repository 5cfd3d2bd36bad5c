-- A run that is saved and resumed shows what the whole run shows.
use Rattle.std.specs.Prelude.{◌≡◌, ℕ, ◌+◌, ◌≤◌, ℤ, List, ◌++◌}
use Rattle.std.specs.List.{flat_map}
use Rattle.model_core.specs.EventGraph.{EventGraph}
use Rattle.model_core.specs.Run.Machine.{ahead}
use Rattle.model_core.specs.Run.History.{Moment, look}
use Rattle.model_core.specs.Text.HistoryText.{note_line, history_text}
use Rattle.model_core.specs.Saved.SavedRun.{IsGood, saved, history_from}

-- The run that was saved at this moment after n steps, which is good, goes on as the whole run does, up to any stop time that
-- isn't before the clock: the notes so far, and then its history, are the history of the whole run, but for the number of events
-- in the line of a run that goes on.
pub record Resumes (g : EventGraph) (seed : ℕ) (starts : List ℤ) (until n : ℕ) (m : Moment) : Type 0 where
  pub good : IsGood g (saved seed n m)
  pub whole : (later more : ℕ) → m.now.clock ≤ later → look g seed starts later (n + more) ≡ ahead (look g seed starts until n).history (history_from g (saved seed n m) later more)
  pub text : (later more : ℕ) → m.now.clock ≤ later → history_text g later more (look g seed starts later (n + more)) ≡ flat_map (note_line g) (look g seed starts until n).history ++ history_text g later more (history_from g (saved seed n m) later more)
