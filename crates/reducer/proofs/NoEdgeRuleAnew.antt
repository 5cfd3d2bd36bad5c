-- Where no edge can be pruned or settled, none can be after a drop, a merge or a slice.
use Rattle.std.proofs.Common.{◌≡◌, ℕ, Bool, List, [], ◌∷◌, map, Option, Some, None, refl, sym, ◌∙◌, subst}
use Rattle.std.specs.Option.{option_map_or}
use Rattle.model_core.specs.EventGraph.{EventGraph}
use Rattle.model_core.specs.Static.Reading.{IsValid}
use Rattle.model_core.specs.Rules.Conditions.{first_failed}
use Rattle.model_core.specs.Rules.Reached.{unreached}
use Rattle.model_core.specs.Rules.Drop.{drop_conditions, dropped}
use Rattle.model_core.specs.Rules.Merge.{merge_conditions, merged, first_merge}
use Rattle.model_core.specs.Rules.Needed.{unneeded}
use Rattle.model_core.specs.Rules.Slice.{slice_conditions, sliced}
use Rattle.model_core.specs.Rules.Reduction.{RuleApplication, Prune, Settle, Drop, Merge, Slice, vertices_named, two_vertices_named, variables_named, unless_failed, applied, drop_of, merge_of, slice_of, first_given, first_rule}
use Rattle.model_core.specs.Text.Canonical.{variable_name, vertex_name}
use Rattle.reducer.specs.Inner.LaterRules.{NoEdgeRule, LeavesEdges}
use Rattle.reducer.proofs.FirstLaterRule.{later_is_first}

module _ (leaves : LeavesEdges) (g : EventGraph) (none : NoEdgeRule g) where
  none-dropped : (ks : List ℕ) → NoEdgeRule (dropped g ks)
  none-dropped ks = record { refuted = leaves.prune_dropped g ks none.refuted; settled = leaves.settle_dropped g ks none.settled }

  none-merged : (first second : ℕ) → NoEdgeRule (merged g first second)
  none-merged first second = record { refuted = leaves.prune_merged g first second none.refuted; settled = leaves.settle_merged g first second none.settled }

  none-sliced : IsValid g → (ks : List ℕ) → first_failed (slice_conditions g ks) ≡ None → NoEdgeRule (sliced g ks)
  none-sliced valid ks holds = record { refuted = leaves.prune_sliced g ks valid holds ∙ none.refuted; settled = leaves.settle_sliced g ks valid holds ∙ none.settled }

-- ---- any application after the rules of edges

abbrev IsLater : RuleApplication → Type 0
IsLater (Prune name number) = ⊥
IsLater (Settle name number) = ⊥
IsLater (Drop names) = Unit {0}
IsLater (Merge name target) = Unit {0}
IsLater (Slice names) = Unit {0}

some_later : (g : EventGraph) (drops : List ℕ) (merge : Option (ℕ × ℕ)) (slices : List ℕ) (a : RuleApplication) → first_given (drop_of g drops ∷ merge_of g merge ∷ slice_of g slices ∷ []) ≡ Some a → IsLater a
some_later g (v ∷ vs) merge slices a is = subst IsLater (let same : Drop (map (vertex_name g) (v ∷ vs)) ≡ a = cc in same) tt
some_later g [] (Some (first, second)) slices a is = subst IsLater (let same : Merge (vertex_name g first) (vertex_name g second) ≡ a = cc in same) tt
some_later g [] None (v ∷ vs) a is = subst IsLater (let same : Slice (map (variable_name g) (v ∷ vs)) ≡ a = cc in same) tt
some_later g [] None [] a is = cc

-- what is applied at a place that is named has no failing condition there
module _ {P : Type 0} (conditions : P → List Bool) (result : P → EventGraph) (Q : EventGraph → Type 0) (kept : (p : P) → first_failed (conditions p) ≡ None → Q (result p)) where
  named_kept : (g h : EventGraph) (missing : ℕ) (o : Option P) → unless_failed (option_map_or (λ p. first_failed (conditions p)) o (Some missing)) (option_map_or result o g) ≡ Some h → Q h
  named_kept g h missing None made = cc
  named_kept g h missing (Some p) made = one (first_failed (conditions p)) refl made where
    one : (o : Option ℕ) → first_failed (conditions p) ≡ o → unless_failed o (result p) ≡ Some h → Q h
    one None none made = subst Q (let same : result p ≡ h = cc in same) (kept p none)
    one (Some n) none made = cc

-- what each of these rules gives of a graph the first one gives, where it is applied
pub later_kept : (g h : EventGraph) (a : RuleApplication) (Q : EventGraph → Type 0) → NoEdgeRule g → first_rule g ≡ Some a
    → ((ks : List ℕ) → first_failed (drop_conditions g ks) ≡ None → Q (dropped g ks))
    → ((first second : ℕ) → first_failed (merge_conditions g first second) ≡ None → Q (merged g first second))
    → ((ks : List ℕ) → first_failed (slice_conditions g ks) ≡ None → Q (sliced g ks))
    → applied g a ≡ Some h → Q h
later_kept g h a Q none is drops merges slices made = by a (some_later g (unreached g) (first_merge g) (unneeded g) a (sym (later_is_first g none) ∙ is)) made where
  by : (a : RuleApplication) → IsLater a → applied g a ≡ Some h → Q h
  by (Prune name number) later made = absurd later
  by (Settle name number) later made = absurd later
  by (Drop names) later made = named_kept (drop_conditions g) (dropped g) Q drops g h 2 (vertices_named g names) made
  by (Merge name target) later made = named_kept (λ ((first, second) : ℕ × ℕ). merge_conditions g first second) (λ (first, second). merged g first second) Q (λ (first, second) holds. merges first second holds) g h 1 (two_vertices_named g name target) made
  by (Slice names) later made = named_kept (slice_conditions g) (sliced g) Q slices g h 2 (variables_named g names) made

pub none-applied : LeavesEdges → (g h : EventGraph) (a : RuleApplication) → IsValid g → NoEdgeRule g → first_rule g ≡ Some a → applied g a ≡ Some h → NoEdgeRule h
none-applied leaves g h a valid none is made = later_kept g h a NoEdgeRule none is (λ ks holds. none-dropped leaves g none ks) (λ first second holds. none-merged leaves g none first second) (none-sliced leaves g none valid) made
