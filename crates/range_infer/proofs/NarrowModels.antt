-- What is known of a valid model and of ranges that fit it and are inductive: of each variable, vertex, change and edge.
use Rattle.std.proofs.Common.{◌≡◌, ◌==◌, ℕ, ◌<◌, ◌≤◌, zero, suc, nat_lt, Bool, true, false, ◌&&◌, IsTrue, All, List, [], ◌∷◌, length, slice_index_or, refl, sym, ◌∙◌, ap, ap₂, subst, arith}
use Rattle.std.specs.List.{AllByRecursion, flat_map, list_any}
use Rattle.std.proofs.lemmas.Int.{ints}
use Rattle.std.proofs.lemmas.List.{get_or_past}
use Rattle.std.proofs.lemmas.Bool.Decides.{nat_tests}
use Rattle.sig_base.proofs.Tests.{int_le-true}
use Rattle.model_core.specs.declared.model.Kind.TheVariants as kinds
use Rattle.model_core.specs.EventGraph.{EventGraph, EventVertex, EventEdge, StateChange, Variable}
use Rattle.model_core.specs.Run.State.{no_variable, variable_at, within, in_range, initial_state}
use Rattle.model_core.specs.Run.Step.{no_vertex, vertex_at}
use Rattle.model_core.specs.Static.OwnRules.{KeepsVariable, KeepsChange, KeepsEdge, KeepsVertex, KeepsParts, parameters_of}
use Rattle.model_core.specs.Rules.BoundsOfParts.{is_truth_kind}
use Rattle.model_core.proofs.Among.{Among, first_true, second_true, among-any}
use Rattle.model_core.proofs.EachOne.{every-front, every-after, every-flat_map, every-both}
use Rattle.run_laws.proofs.InRange.{starts_in_range}
use Rattle.model_core.specs.Rules.RangesHold.{ZeroToOne, TruthsAreDeclared}
use Rattle.model_core.specs.declared.incoming.Incoming.{Incoming}
use Rattle.model_core.specs.declared.var_range.VarRange.{VarRange}
use Rattle.model_core.specs.Ranges.OtherRanges.{LiesIn, declared_range, with_range, with_ranges, model_with_ranges, no_range, range_at}
use Rattle.model_core.specs.Ranges.Incoming.{into_change, into_edge, into_vertex}
use Rattle.model_core.specs.Ranges.Inductive.{is_fixed, Encloses, FitsVariable, Fitting, HoldsIncoming, Inductive}
use Rattle.range_infer.proofs.ModelWithRanges.{range_given}
use Rattle.bound_laws.proofs.Soundness.TruthEnds.{truths_declared}

-- ---- variables

none_fits : (g : EventGraph) (v : ℕ) → variable_at g v ≡ no_variable → FitsVariable g v no_range
none_fits g v none = record {
  ordered = omega (arith, ints);
  inside = subst (λ (w : Variable). Encloses (declared_range w) no_range) (sym none) (record { low = omega (arith, ints); high = omega (arith, ints) });
  fixed = λ is. ap declared_range (sym none);
}

-- a range fits also where there is no variable
pub fits_everywhere : (g : EventGraph) (ranges : List VarRange) → Fitting g ranges → (v : ℕ) → FitsVariable g v (range_at ranges v)
fits_everywhere g ranges fitting v = by (nat_lt v (length g.variables)) refl where
  by : (b : Bool) → nat_lt v (length g.variables) ≡ b → FitsVariable g v (range_at ranges v)
  by true e = fitting.each v (grind (arith, nat_tests))
  by false e =
      let after : length g.variables ≤ v = grind (arith, nat_tests) in
      let none = get_or_past g.variables v no_variable after in
      let no_more = get_or_past ranges v no_range (omega (arith, fitting.as_many, after)) in
      subst (λ (r : VarRange). FitsVariable g v r) (sym no_more) (none_fits g v none)

begins_within : (vs : List Variable) (rs : List VarRange) → length rs ≡ length vs → ((k : ℕ) → k < length vs → LiesIn (range_at rs k) (slice_index_or vs k no_variable).initial) → All (λ (v : Variable). IsTrue (within v.lo v.hi v.initial)) (with_ranges vs rs)
begins_within [] rs e h k d below = absurd (omega (arith, below))
begins_within (v ∷ vs) [] e h k d below = absurd (omega arith)
begins_within (v ∷ vs) (r ∷ rs) e h zero d below =
    let l = h 0 (omega arith) in ap₂ (λ (a b : Bool). a && b) (int_le-true r.lo v.initial l.low) (int_le-true v.initial r.hi l.high)
begins_within (v ∷ vs) (r ∷ rs) e h (suc k) d below = begins_within vs rs (omega arith) (λ k small. h (suc k) (omega arith)) k d (omega (arith, below))

pub begins_in_range : (g : EventGraph) (ranges : List VarRange) → Fitting g ranges → Inductive g ranges → IsTrue (in_range (model_with_ranges g ranges) (initial_state (model_with_ranges g ranges)))
begins_in_range g ranges fitting inductive = starts_in_range (model_with_ranges g ranges) (begins_within g.variables ranges fitting.as_many inductive.begins)

-- a variable that holds truth values, or is a parameter of the first vertex, is fixed
pub truth_fixed : (g : EventGraph) (v : ℕ) → (variable_at g v).kind ≡ kinds.Truth → is_fixed g v ≡ true
truth_fixed g v is = first_true (is_truth_kind (variable_at g v).kind) (list_any (λ (p : ℕ). p == v) (vertex_at g 0).parameters) (ap is_truth_kind is)

pub parameter_fixed : (g : EventGraph) (v : ℕ) → Among v (vertex_at g 0).parameters → is_fixed g v ≡ true
parameter_fixed g v there =
    second_true (is_truth_kind (variable_at g v).kind) (list_any (λ (p : ℕ). p == v) (vertex_at g 0).parameters) (among-any (λ (p : ℕ). p == v) (vertex_at g 0).parameters v there (grind (arith, nat_tests)))

-- truth values stay as declared
pub truths_redeclared : (g : EventGraph) (ranges : List VarRange) → AllByRecursion KeepsVariable g.variables → Fitting g ranges → TruthsAreDeclared (model_with_ranges g ranges).variables
truths_redeclared g ranges keep fitting v truth =
    let given = range_given g.variables ranges fitting.as_many v in
    let of_truth : (variable_at g v).kind ≡ kinds.Truth = sym (ap (λ (w : Variable). w.kind) given) ∙ truth in
    let as_declared = (fits_everywhere g ranges fitting v).fixed (truth_fixed g v of_truth) in
    let zero_one = truths_declared g.variables keep v of_truth in
    let same : variable_at (model_with_ranges g ranges) v ≡ variable_at g v = given ∙ ap (with_range (variable_at g v)) as_declared in
    subst ZeroToOne (sym same) zero_one

-- ---- vertices

module _ (g : EventGraph) (ranges : List VarRange) where
  pub record ChangeInRanges (c : StateChange) : Type 0 where
    pub keeps : KeepsChange g.variables (length g.tables) (parameters_of g) c
    pub takes : AllByRecursion (HoldsIncoming g ranges) (into_change g (with_ranges g.variables ranges) c)

  pub record EdgeInRanges (e : EventEdge) : Type 0 where
    pub keeps : KeepsEdge g.variables (length g.tables) (parameters_of g) e
    pub takes : AllByRecursion (HoldsIncoming g ranges) (into_edge g (with_ranges g.variables ranges) e)

  pub record VertexInRanges (v : EventVertex) : Type 0 where
    pub changes : AllByRecursion ChangeInRanges v.changes
    pub edges : AllByRecursion EdgeInRanges v.edges

  abbrev Takes : List Incoming → Type 0
  Takes = AllByRecursion (HoldsIncoming g ranges)

  vertex_in_ranges : (v : EventVertex) → KeepsVertex g.variables (length g.tables) (parameters_of g) v → Takes (into_vertex g (with_ranges g.variables ranges) v) → VertexInRanges v
  vertex_in_ranges v keeps takes =
      let changes = flat_map (into_change g (with_ranges g.variables ranges)) v.changes in
      let edges = flat_map (into_edge g (with_ranges g.variables ranges)) v.edges in
      record {
        changes = every-both _ (λ (c : StateChange). Takes (into_change g (with_ranges g.variables ranges) c)) ChangeInRanges (λ c keeps takes. record { keeps = keeps; takes = takes }) v.changes keeps.changes
            (every-flat_map (HoldsIncoming g ranges) (into_change g (with_ranges g.variables ranges)) v.changes (every-front (HoldsIncoming g ranges) changes edges takes));
        edges = every-both _ (λ (e : EventEdge). Takes (into_edge g (with_ranges g.variables ranges) e)) EdgeInRanges (λ e keeps takes. record { keeps = keeps; takes = takes }) v.edges keeps.edges
            (every-flat_map (HoldsIncoming g ranges) (into_edge g (with_ranges g.variables ranges)) v.edges (every-after (HoldsIncoming g ranges) changes edges takes));
      }

  in_ranges_at : (us : List EventVertex) → AllByRecursion VertexInRanges us → (k : ℕ) → VertexInRanges (slice_index_or us k no_vertex)
  in_ranges_at [] all k = record { changes = tt; edges = tt }
  in_ranges_at (u ∷ us) all zero = all.0
  in_ranges_at (u ∷ us) all (suc k) = in_ranges_at us all.1 k

  pub vertices_in_ranges : KeepsParts g → Inductive g ranges → (k : ℕ) → VertexInRanges (vertex_at g k)
  vertices_in_ranges keeps inductive =
      in_ranges_at g.vertices (every-both _ (λ (v : EventVertex). Takes (into_vertex g (with_ranges g.variables ranges) v)) VertexInRanges vertex_in_ranges g.vertices keeps.vertices
      (every-flat_map (HoldsIncoming g ranges) (into_vertex g (with_ranges g.variables ranges)) g.vertices inductive.takes))
