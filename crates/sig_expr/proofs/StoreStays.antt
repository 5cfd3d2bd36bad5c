-- A store keeps the state in range, and a fault leaves it.
use Rattle.std.proofs.Common.{◌≡◌, ℤ, Result, Ok, Err, sym, subst, OnErr, IsTrue}
use Rattle.sig_base.specs.declared.fault.FaultKind.{FaultKind}
use Rattle.model_core.specs.EventGraph.{EventGraph}
use Rattle.model_core.specs.Run.State.{State, Place, in_range}
use Rattle.model_core.specs.Run.Changes.{store}
use Rattle.run_laws.proofs.InRange.{in_range-kept}
use Rattle.sig_expr.specs.Outcomes.{with_ok}

pub store_stays : {U : Type 0} (g : EventGraph) (p : Place × ℤ) (s t : State) (r : Result U FaultKind) → IsTrue (in_range g s) → with_ok t r ≡ store g p s → OnErr r (t ≡ s) → IsTrue (in_range g t)
store_stays g p s t (Ok u) inside stores fault = (in_range-kept g).by_store p s t inside (sym stores)
store_stays g p s t (Err k) inside stores fault = subst (λ u. IsTrue (in_range g u)) (sym fault) inside
