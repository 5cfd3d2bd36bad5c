-- Where all parts are looked at, variables take all that they can take.
use Rattle.std.proofs.Common.{◌≡◌, ℕ, Bool, true, false, ◌&&◌, cond, List, [], ◌∷◌, ◌++◌, map, refl, sym, ap, ap₂}
use Rattle.std.specs.List.{list_any, flat_map}
use Rattle.model_core.specs.EventGraph.{EventGraph, EventVertex, EventEdge, StateChange, Set, Draw, Variable, Expression, Location, is_scheduling}
use Rattle.model_core.specs.Run.Step.{vertex_at}
use Rattle.model_core.specs.Rules.BoundsOf.{bounds_under}
use Rattle.model_core.specs.declared.incoming.Incoming.{Incoming}
use Rattle.model_core.specs.declared.var_range.VarRange.{VarRange}
use Rattle.model_core.specs.Ranges.OtherRanges.{with_ranges}
use Rattle.model_core.specs.Ranges.Refined.{refined}
use Rattle.model_core.specs.Ranges.Incoming.{assigned, into_change, into_edge, into_vertex, incoming}
use Rattle.range_infer.specs.Inner.PartReads.{each_reads}
use Rattle.range_infer.specs.Inner.LookedAt.{looks_at_value, assigned_seen, change_seen, values_seen, edge_seen, vertex_seen, incoming_seen}

nothing : (b : Bool) → let none : List Incoming = [] in cond b none none ≡ none
nothing true = refl
nothing false = refl

each_same : {A : Type 0} (some all : A → List Incoming) → ((x : A) → some x ≡ all x) → (xs : List A) → flat_map some xs ≡ flat_map all xs
each_same some all same [] = refl
each_same some all same (x ∷ xs) = ap₂ (λ (here later : List Incoming). here ++ later) (same x) (each_same some all same xs)

module _ (g : EventGraph) (moved : List Bool) where
  all_assigned : (rs : List Variable) (vs : List ℕ) (es : List Expression) → assigned_seen true moved rs vs es ≡ assigned rs vs es
  all_assigned rs [] es = refl
  all_assigned rs (v ∷ vs) [] = refl
  all_assigned rs (v ∷ vs) (e ∷ es) = ap (λ (is : List Incoming). record { variable = v; bounds = bounds_under refined rs e } ∷ is) (all_assigned rs vs es)

  none_assigned : (rs : List Variable) (vs : List ℕ) → assigned rs vs [] ≡ []
  none_assigned rs [] = refl
  none_assigned rs (v ∷ vs) = refl

  pub all_values : (rs : List Variable) (e : EventEdge) → values_seen g true moved rs e ≡ into_edge g rs e
  all_values rs e = by (is_scheduling e.kind) (bounds_under refined rs e.condition).can_true (refined e.condition true rs) (vertex_at g e.target).parameters e.values where
    by : (k t : Bool) (left : List Variable) (vs : List ℕ) (es : List Expression) → cond (k && list_any (looks_at_value true moved) (each_reads es)) (cond t (assigned_seen true moved left vs es) []) [] ≡ cond (k && t) (assigned left vs es) []
    by false t left vs es = refl
    by true false left vs es = nothing (list_any (looks_at_value true moved) (each_reads es))
    by true true left vs [] = sym (none_assigned left vs)
    by true true left vs (e ∷ es) = all_assigned left vs (e ∷ es)

  all_change : (rs : List Variable) (c : StateChange) → change_seen g true moved rs c ≡ into_change g rs c
  all_change rs (Set targets values) = all_assigned rs (map (λ (l : Location). l.variable) targets) values
  all_change rs (Draw target stream choice) = refl

  all_vertex : (rs : List Variable) (v : EventVertex) → vertex_seen g true moved rs v ≡ into_vertex g rs v
  all_vertex rs v =
      ap₂ (λ (changes edges : List Incoming). changes ++ edges) (each_same (change_seen g true moved rs) (into_change g rs) (all_change rs) v.changes)
      (each_same (edge_seen g true moved rs) (into_edge g rs) (all_values rs) v.edges)

  pub all_seen : (ranges : List VarRange) → incoming_seen g true moved ranges ≡ incoming g ranges
  all_seen ranges =
      let rs = with_ranges g.variables ranges in
      each_same (vertex_seen g true moved rs) (into_vertex g rs) (all_vertex rs) g.vertices
