-- Which document reads as which model, with which saved run of it.
use Rattle.std.specs.Prelude.{◌≡◌, ℕ, ◌≤◌, List, length, None}
use Rattle.sig_base.specs.declared.limits.TheConstants.{DOCUMENT_MAX}
use Rattle.model_core.specs.EventGraph.{EventGraph}
use Rattle.model_core.specs.Text.Written.{WrittenModel}
use Rattle.model_core.specs.Text.SnapshotGrammar.{WrittenSnapshot}
use Rattle.model_core.specs.Text.SavedDocument.{SpellsSaved}
use Rattle.model_core.specs.Static.ModelFaults.{Accepted}
use Rattle.model_core.specs.Saved.SavedRun.{SavedRun}
use Rattle.model_core.specs.Saved.GoodSnapshots.{bad_at, saved_run}

-- A document within its limit spells a written model that is accepted as this model, and a snapshot that has no bad part and
-- means this saved run.
pub record ReadsSaved (text : List ℕ) (g : EventGraph) (s : SavedRun) : Type 0 where
  pub fits : length text ≤ DOCUMENT_MAX
  pub model : WrittenModel
  pub snapshot : WrittenSnapshot
  pub spells : SpellsSaved text model snapshot
  pub accepted : Accepted model g
  pub good : bad_at g snapshot ≡ None
  pub means : saved_run g snapshot ≡ s
