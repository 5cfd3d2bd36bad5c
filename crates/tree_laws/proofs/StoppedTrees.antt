-- A check that failed stays the first that fails, whatever expression is valued after it, and in whatever state.
use Rattle.std.proofs.Common.{pos, ◌-ℤ◌}
use Rattle.sig_base.specs.declared.fault.FaultKind.{FaultKind}
use Rattle.sig_base.specs.declared.fault.FaultKind.TheVariants as faults
use Rattle.model_core.specs.EventGraph.{EventGraph, Expression, Number, Truth, Clock, Scalar, Cell, Negative, Not, Binary, If}
use Rattle.model_core.specs.Run.State.{variable_at}
use Rattle.tree_laws.specs.SumValues.{Valuation}
use Rattle.tree_laws.specs.SumEnds.{Ground}
use Rattle.tree_laws.specs.Meaning.{Meets}
use Rattle.tree_laws.specs.Trees.{CaseTree}
use Rattle.tree_laws.specs.TreeConditions.{between_tree, read_cell}
use Rattle.tree_laws.specs.Valued.{Noted, Valued, SoFar, note, guard_and, guard_not, guard_beside, after_stores, valued}
use Rattle.tree_laws.specs.ChecksHold.{FailedIn, FailedAfter}
use Rattle.tree_laws.proofs.Gives.{Gives, gives_some, then_gives}
use Rattle.tree_laws.proofs.NotedChecks.{skip, note-failed, plain-failed, checked-failed}
use Rattle.tree_laws.proofs.ValuedTrees.{operator-failed}

module _ (v : Valuation) (base : Ground) (meets : Meets base v) (g : EventGraph) (so_far : SoFar) (f : FaultKind) where
  abbrev Stopped : Valued → Type 0
  Stopped w = FailedAfter v f w

  stopped : (e : Expression) (guard : CaseTree) (n : Noted) → FailedIn v f n → Gives (valued base g so_far e guard n) Stopped
  unfolding valued FailedAfter
  stopped (Number x) guard n failed = gives_some _ _ failed
  stopped (Truth b) guard n failed = gives_some _ _ failed
  stopped Clock guard n failed = plain-failed v base meets f n _ failed
  stopped (Scalar i) guard n failed = gives_some _ _ failed
  stopped (Cell i e) guard n failed =
      then_gives Stopped Stopped (valued base g so_far e guard n) _ (stopped e guard n failed) (λ a failed.
      skip Stopped (read_cell base i a.noted.known a.tree) _ (λ first.
      skip Stopped (after_stores base a.noted.known a.tree first (so_far.stores i)) _ (λ t.
      skip Stopped (between_tree base a.noted.known a.tree (pos 0) (pos (variable_at g i).size -ℤ pos 1)) _ (λ c.
      then_gives (FailedIn v f) Stopped (note base faults.IndexOutside guard c a.noted) _ (note-failed v base meets f faults.IndexOutside guard c a.noted failed) (λ m k. gives_some Stopped _ k)))))
  stopped (Negative e) guard n failed =
      then_gives Stopped Stopped (valued base g so_far e guard n) _ (stopped e guard n failed) (λ a failed. checked-failed v base meets f guard a.noted _ failed)
  stopped (Not e) guard n failed =
      then_gives Stopped Stopped (valued base g so_far e guard n) _ (stopped e guard n failed) (λ a failed. plain-failed v base meets f a.noted _ failed)
  stopped (Binary op left right) guard n failed =
      then_gives Stopped Stopped (valued base g so_far left guard n) _ (stopped left guard n failed) (λ a failed.
      skip Stopped (guard_beside base op a.noted.known guard a.tree) _ (λ beside.
      then_gives Stopped Stopped (valued base g so_far right beside a.noted) _ (stopped right beside a.noted failed) (λ b failed. operator-failed v base meets f op guard a.tree b.tree b.noted failed)))
  stopped (If test left right) guard n failed =
      then_gives Stopped Stopped (valued base g so_far test guard n) _ (stopped test guard n failed) (λ c failed.
      skip Stopped (guard_and base c.noted.known guard c.tree) _ (λ where_one.
      then_gives Stopped Stopped (valued base g so_far left where_one c.noted) _ (stopped left where_one c.noted failed) (λ a failed.
      skip Stopped (guard_not base a.noted.known guard c.tree) _ (λ where_zero.
      then_gives Stopped Stopped (valued base g so_far right where_zero a.noted) _ (stopped right where_zero a.noted failed) (λ b failed. plain-failed v base meets f b.noted _ failed)))))

  pub expression-stopped : (e : Expression) (guard : CaseTree) (n : Noted) → FailedIn v f n → Gives (valued base g so_far e guard n) (λ (w : Valued). FailedIn v f w.noted)
  unfolding FailedAfter
  expression-stopped e guard n failed = stopped e guard n failed
