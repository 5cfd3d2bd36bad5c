-- Where variables go, the bounds of what stays are the old ones, so prune and settle apply to the edges to which they did.
use Rattle.std.proofs.Common.{◌≡◌, ℕ, ◌+◌, Bool, true, not, cond, ◌&&◌, List, [], ◌∷◌, ◌++◌, map, Option, Some, None, refl, sym, ap, ap₂, ◌∙◌}
use Rattle.std.specs.List.{AllByRecursion, position_from}
use Rattle.model_core.specs.declared.bounds.Bounds.{Bounds}
use Rattle.model_core.specs.EventGraph.{EventGraph, EventVertex, EventEdge, Variable, Operator, Expression, Number, Truth, Clock, Scalar, Cell, Negative, Not, Binary, If}
use Rattle.model_core.specs.Text.Spellable.{IsSpellable}
use Rattle.model_core.specs.Static.OwnRules.{KeepsParts}
use Rattle.model_core.specs.Rules.BoundsTable.{variable_bounds, quiet_index, negative_bounds, opposite, operator_bounds, chosen_bounds}
use Rattle.model_core.specs.Rules.BoundsOf.{ranged_at, bounds_under, no_guard, bounds_of, refuted, proved}
use Rattle.model_core.specs.Rules.Conditions.{first_failed}
use Rattle.model_core.specs.Rules.PlacedEdges.{edge_or, first_edge}
use Rattle.model_core.specs.Rules.Prune.{has_refuted_condition, first_prune}
use Rattle.model_core.specs.Rules.Settle.{can_be_settled, first_settle}
use Rattle.model_core.specs.Rules.MarkedPlaces.{rank}
use Rattle.model_core.specs.Rules.Uses.{variables_in}
use Rattle.model_core.specs.Rules.Needed.{needed_marks}
use Rattle.model_core.specs.Rules.Slice.{expression_renumbered, sliced_edge, sliced_vertex, of_marked_variables, slice_conditions, sliced}
use Rattle.mark_laws.proofs.Marks.{Marked}
use Rattle.bound_laws.proofs.NoGuard.{beside_no_guard}
use Rattle.model_core.proofs.EachOne.{every-front, every-after, every-map}
use Rattle.model_core.proofs.RenumberedConditions.{literal-renumbered}
use Rattle.var_slicing.proofs.StoresLeft.{variable-left}
use Rattle.var_slicing.proofs.ValuesLeft.{ReadsMarked}
use Rattle.var_slicing.proofs.NeedsClosed.{EdgeNeeds, NeedsHold, live_streams}
use Rattle.var_slicing.proofs.SliceResult.{without_unneeded, needs_hold}

-- ---- expressions

module _ (f : ℕ → ℕ) (old new : List Variable) where
  -- a variable has its range at its new number
  abbrev RangedSame : ℕ → Type 0
  RangedSame v = ranged_at new (f v) ≡ ranged_at old v

  -- without a guard both operands have the same ranges
  operands-bounds : (ranges : List Variable) (op : Operator) (a b : Expression) → bounds_under no_guard ranges (Binary op a b) ≡ operator_bounds op (bounds_under no_guard ranges a) (bounds_under no_guard ranges b)
  operands-bounds ranges op a b = ap (λ (vs : List Variable). operator_bounds op (bounds_under no_guard ranges a) (bounds_under no_guard vs b)) (beside_no_guard op a ranges)

  pub bounds-renumbered : (e : Expression) → AllByRecursion RangedSame (variables_in e) → bounds_under no_guard new (expression_renumbered f e) ≡ bounds_under no_guard old e
  bounds-renumbered (Number n) same = refl
  bounds-renumbered (Truth b) same = refl
  bounds-renumbered Clock same = refl
  bounds-renumbered (Scalar v) same = ap (λ (v : Variable). variable_bounds v true) same.0
  bounds-renumbered (Cell v e) same = ap₂ (λ (v : Variable) (b : Bounds). variable_bounds v (quiet_index v b)) same.0 (bounds-renumbered e same.1)
  bounds-renumbered (Negative a) same = ap negative_bounds (bounds-renumbered a same)
  bounds-renumbered (Not a) same = ap opposite (bounds-renumbered a same)
  bounds-renumbered (Binary op a b) same =
      operands-bounds new op (expression_renumbered f a) (expression_renumbered f b)
      ∙ ap₂ (operator_bounds op) (bounds-renumbered a (every-front RangedSame (variables_in a) (variables_in b) same)) (bounds-renumbered b (every-after RangedSame (variables_in a) (variables_in b) same))
      ∙ sym (operands-bounds old op a b)
  bounds-renumbered (If c a b) same =
      let first = every-front RangedSame (variables_in c ++ variables_in a) (variables_in b) same in
      ap₂ (λ (x y : Bounds). chosen_bounds x y (bounds_under no_guard new (expression_renumbered f b))) (bounds-renumbered c (every-front RangedSame (variables_in c) (variables_in a) first)) (bounds-renumbered a (every-after RangedSame (variables_in c) (variables_in a) first))
      ∙ ap (chosen_bounds (bounds_under no_guard old c) (bounds_under no_guard old a)) (bounds-renumbered b (every-after RangedSame (variables_in c ++ variables_in a) (variables_in b) same))

pub bounds-left : (g : EventGraph) (marks : List Bool) (e : Expression) → ReadsMarked marks e → bounds_of (of_marked_variables g marks) (expression_renumbered (rank marks) e) ≡ bounds_of g e
bounds-left g marks e reads =
    let h = of_marked_variables g marks in
    bounds-renumbered (rank marks) g.variables h.variables e (every-map (Marked marks) (λ v. ranged_at h.variables (rank marks v) ≡ ranged_at g.variables v) (variable-left g marks) (variables_in e) reads)

-- ---- edges

module _ (test new_test : EventEdge → Bool) (left : EventEdge → EventEdge) where
  abbrev TestedSame : EventEdge → Type 0
  TestedSame e = new_test (left e) ≡ test e

  position-mapped : (es : List EventEdge) → AllByRecursion TestedSame es → (from : ℕ) → position_from new_test from (map left es) ≡ position_from test from es
  position-mapped [] same from = refl
  position-mapped (e ∷ es) same from = ap₂ (λ (b : Bool) (o : Option ℕ). cond b (Some from) o) same.0 (position-mapped es same.1 (from + 1))

  -- vertices whose edges are mapped one by one
  first_edge-mapped : (into : EventVertex → EventVertex) → ((v : EventVertex) → (into v).edges ≡ map left v.edges) → (vs : List EventVertex) → AllByRecursion (λ (v : EventVertex). AllByRecursion TestedSame v.edges) vs → (before : ℕ) → first_edge new_test before (map into vs) ≡ first_edge test before vs
  first_edge-mapped into edges [] same before = refl
  first_edge-mapped into edges (v ∷ vs) same before =
      ap₂ (edge_or before) (ap (position_from new_test 0) (edges v) ∙ position-mapped v.edges same.0 0) (first_edge-mapped into edges vs same.1 (before + 1))

module _ (g : EventGraph) (marks live : List Bool) (needs : NeedsHold g marks live) where
  abbrev h : EventGraph
  h = of_marked_variables g marks

  refuted-left : (e : EventEdge) → EdgeNeeds g marks e → has_refuted_condition h (sliced_edge g marks e) ≡ has_refuted_condition g e
  refuted-left e need = ap refuted (bounds-left g marks e.condition need.0)

  settled-left : (e : EventEdge) → EdgeNeeds g marks e → can_be_settled h (sliced_edge g marks e) ≡ can_be_settled g e
  settled-left e need = ap₂ (λ (b c : Bool). not b && c) (literal-renumbered (rank marks) e.condition) (ap proved (bounds-left g marks e.condition need.0))

  each-edge : (test new_test : EventEdge → Bool) → ((e : EventEdge) → EdgeNeeds g marks e → new_test (sliced_edge g marks e) ≡ test e) → AllByRecursion (λ (v : EventVertex). AllByRecursion (λ (e : EventEdge). new_test (sliced_edge g marks e) ≡ test e) v.edges) g.vertices
  each-edge test new_test same = every-map (λ (v : EventVertex). AllByRecursion (EdgeNeeds g marks) v.edges) (λ (v : EventVertex). AllByRecursion (λ (e : EventEdge). new_test (sliced_edge g marks e) ≡ test e) v.edges) (λ v all. every-map (EdgeNeeds g marks) (λ e. new_test (sliced_edge g marks e) ≡ test e) same v.edges all) g.vertices needs.edges

  first_prune-left : first_prune h ≡ first_prune g
  first_prune-left = first_edge-mapped (has_refuted_condition g) (has_refuted_condition h) (sliced_edge g marks) (sliced_vertex g marks) (λ v. refl) g.vertices (each-edge (has_refuted_condition g) (has_refuted_condition h) refuted-left) 0

  first_settle-left : first_settle h ≡ first_settle g
  first_settle-left = first_edge-mapped (can_be_settled g) (can_be_settled h) (sliced_edge g marks) (sliced_vertex g marks) (λ v. refl) g.vertices (each-edge (can_be_settled g) (can_be_settled h) settled-left) 0

-- ---- the result of slicing

module _ (g : EventGraph) (keeps : KeepsParts g) (spellable : IsSpellable g) (variables : List ℕ) (none : first_failed (slice_conditions g variables) ≡ None) where
  abbrev marks : List Bool
  marks = needed_marks g

  pub first_prune-sliced : first_prune (sliced g variables) ≡ first_prune g
  first_prune-sliced = ap first_prune (without_unneeded g variables none) ∙ first_prune-left g marks (live_streams g marks) (needs_hold g keeps spellable)

  pub first_settle-sliced : first_settle (sliced g variables) ≡ first_settle g
  first_settle-sliced = ap first_settle (without_unneeded g variables none) ∙ first_settle-left g marks (live_streams g marks) (needs_hold g keeps spellable)
