-- A model has few edges: each of its vertices has at most so many.
use Rattle.std.proofs.Common.{ℕ, ◌*◌, ◌≤◌, List, [], ◌∷◌, length, arith}
use Rattle.std.specs.List.{sum_by, AllByRecursion}
use Rattle.std.proofs.lemmas.List.Sums.{sum_by-cons}
use Rattle.sig_base.specs.declared.limits.TheConstants.{EDGES_MAX}
use Rattle.model_core.specs.EventGraph.{EventVertex, Variable}
use Rattle.model_core.specs.Static.OwnRules.{KeepsVertex}

module _ (variables : List Variable) (tables : ℕ) (parameters : List (List ℕ)) where
  pub few_edges : (vertices : List EventVertex) → AllByRecursion (KeepsVertex variables tables parameters) vertices → sum_by (λ (v : EventVertex). length v.edges) vertices ≤ EDGES_MAX * length vertices
  few_edges [] all = omega arith
  few_edges (v ∷ vertices) all =
      let more = few_edges vertices all.1 in
      let one = all.0.few_edges in
      omega (arith, more, one, sum_by-cons (λ (v : EventVertex). length v.edges) v vertices)
