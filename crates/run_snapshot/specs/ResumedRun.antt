-- A run that goes on from where one was saved.
use Rattle.std.specs.Prelude.{◌≡◌, ℕ, ◌+◌, ◌≤◌, max, length, None}
use Rattle.model_core.specs.declared.model.Model.{Model}
use Rattle.model_core.specs.Code.Views.{graph_of}
use Rattle.run_control.specs.Running.{Running}
use Rattle.watch_trace.specs.Tracing.{Tracing, moment_of}
use Rattle.model_core.specs.Saved.SavedRun.{SavedRun, saved_moment}

-- a run of the model and its tracer at the moment of the saved run, with room for so many events
pub record ResumedRun (m : Model) (s : SavedRun) (room : ℕ) (r : Running) (t : Tracing) : Type 0 where
  pub model : r.model ≡ m
  pub traced : t.model ≡ m
  pub seeded : r.seed ≡ s.seed
  pub same_moment : moment_of r t ≡ saved_moment (graph_of m) s
  pub numbered : r.numbered ≡ length s.pending
  pub turns : r.turns ≡ s.events
  pub goes_on : r.faulted ≡ None
  pub roomy : max room (length s.pending) ≤ r.spare + length r.now.pending
