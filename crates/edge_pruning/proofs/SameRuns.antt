-- An edge that does nothing may be taken away, and a condition that always holds may be written as `true`: the runs stay the same.
use Rattle.std.proofs.Common.{◌≡◌, ℕ, ◌^◌, ◌≤◌, ℤ, pos, cond, IsTrue, slice_get, Some, Ok, refl, ◌∙◌, ap}
use Rattle.std.specs.Option.{option_and_then}
use Rattle.model_core.specs.EventGraph.{EventGraph, EventVertex, EventEdge, EdgeKind, Schedule, Urgent, CancelNext, CancelEqual, CancelAll}
use Rattle.model_core.specs.Run.State.{State, in_range, initial_state}
use Rattle.model_core.specs.Run.Value.{OrFault, ◌>>=◌, value_of, is_one}
use Rattle.model_core.specs.Run.Edges.{EdgeState, act, treat_edge}
use Rattle.model_core.specs.Run.Step.{no_vertex}
use Rattle.model_core.specs.Run.Same.{Same}
use Rattle.model_core.specs.Rules.PlacedEdges.{edge_at, with_place, with_vertex}
use Rattle.model_core.specs.Rules.Prune.{without_edge, pruned}
use Rattle.model_core.specs.Rules.Settle.{with_true_condition, with_settled, settled}
use Rattle.model_core.proofs.Results.{in_turn-remove}
use Rattle.run_laws.proofs.EdgesAlike.{Alike, itself-alike, alike-Same}
use Rattle.run_laws.proofs.InRange.{in_range-kept}
use Rattle.edge_pruning.proofs.ListsChanged.{with_place-beside, in_turn-with_place}

-- the edge's condition has this value in each state in range, at each clock up to the last stop time
abbrev pub HasValue : EventGraph → ℤ → EventEdge → Type 0
HasValue g x e = (s : State) → IsTrue (in_range g s) → (clk : ℕ) → clk ≤ 2 ^ 48 → value_of g s clk e.condition ≡ Ok x

abbrev InRange : EventGraph → State → Type 0
InRange g s = IsTrue (in_range g s)

-- ---- one edge

-- an edge whose condition is 0 does nothing
treat_edge-idle : (g : EventGraph) (seed : ℕ) (s : State) (clk : ℕ) (e : EventEdge) (p : EdgeState) → value_of g s clk e.condition ≡ Ok (pos 0) → treat_edge g seed s clk e p ≡ Ok p
treat_edge-idle g seed s clk e p zero_there = ap (λ (r : OrFault ℤ). r >>= λ c. cond (is_one c) (act g seed s clk e e.kind p) (Ok p)) zero_there

act-with_true_condition : (g : EventGraph) (seed : ℕ) (s : State) (clk : ℕ) (e : EventEdge) (kind : EdgeKind) (p : EdgeState) → act g seed s clk e kind p ≡ act g seed s clk (with_true_condition e) kind p
act-with_true_condition g seed s clk e (Schedule delay priority) p = refl
act-with_true_condition g seed s clk e Urgent p = refl
act-with_true_condition g seed s clk e CancelNext p = refl
act-with_true_condition g seed s clk e CancelEqual p = refl
act-with_true_condition g seed s clk e CancelAll p = refl

-- an edge whose condition is 1 does what it does under `true`
treat_edge-settled : (g : EventGraph) (seed : ℕ) (s : State) (clk : ℕ) (e : EventEdge) (p : EdgeState) → value_of g s clk e.condition ≡ Ok (pos 1) → treat_edge g seed s clk e p ≡ treat_edge g seed s clk (with_true_condition e) p
treat_edge-settled g seed s clk e p one_there =
    ap (λ (r : OrFault ℤ). r >>= λ c. cond (is_one c) (act g seed s clk e e.kind p) (Ok p)) one_there ∙ act-with_true_condition g seed s clk e e.kind p

-- ---- one vertex

without_edge-alike : (g : EventGraph) (v : EventVertex) (edge : ℕ) → ((e : EventEdge) → slice_get v.edges edge ≡ Some e → HasValue g (pos 0) e) → Alike g (InRange g) v (without_edge edge v)
without_edge-alike g v edge idle = record {
  name = refl;
  parameters = refl;
  changes = refl;
  edges = λ s q seed clk early p. in_turn-remove (treat_edge g seed s clk) v.edges edge p (λ e there p. treat_edge-idle g seed s clk e p (idle e there s q clk early));
}

with_settled-alike : (g : EventGraph) (v : EventVertex) (edge : ℕ) → ((e : EventEdge) → slice_get v.edges edge ≡ Some e → HasValue g (pos 1) e) → Alike g (InRange g) v (with_settled edge v)
with_settled-alike g v edge always = record {
  name = refl;
  parameters = refl;
  changes = refl;
  edges = λ s q seed clk early p. in_turn-with_place (treat_edge g seed s clk) with_true_condition v.edges edge p (λ e there p. treat_edge-settled g seed s clk e p (always e there s q clk early));
}

-- ---- the model

module _ (g : EventGraph) (vertex edge : ℕ) (starts : IsTrue (in_range g (initial_state g))) where
  changed-Same : (f : EventVertex → EventVertex) (x : ℤ) → ((v : EventVertex) → ((e : EventEdge) → slice_get v.edges edge ≡ Some e → HasValue g x e) → Alike g (InRange g) v (f v)) → ((e : EventEdge) → edge_at g vertex edge ≡ Some e → HasValue g x e) → Same g (with_vertex f vertex g)
  changed-Same f x alike has =
      alike-Same g (with_place f vertex g.vertices) (InRange g) (in_range-kept g)
      (λ k. with_place-beside (Alike g (InRange g)) f vertex k no_vertex (itself-alike g (InRange g)) g.vertices
      (λ v there. alike v (λ e is_it. has e (ap (option_and_then (λ (v : EventVertex). slice_get v.edges edge)) there ∙ is_it)))) starts

  -- an edge whose condition is 0 in each state in range may be taken away
  pub idle_edge_may_go : ((e : EventEdge) → edge_at g vertex edge ≡ Some e → HasValue g (pos 0) e) → Same g (pruned g vertex edge)
  idle_edge_may_go idle = changed-Same (without_edge edge) (pos 0) (λ v idle. without_edge-alike g v edge idle) idle

  -- a condition that is 1 in each state in range may be `true`
  pub sure_condition_may_be_true : ((e : EventEdge) → edge_at g vertex edge ≡ Some e → HasValue g (pos 1) e) → Same g (settled g vertex edge)
  sure_condition_may_be_true sure = changed-Same (with_settled edge) (pos 1) (λ v sure. with_settled-alike g v edge sure) sure
