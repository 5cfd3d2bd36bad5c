-- What is left where the marked variables stay needs version 2 of a text only where the model did, and has no more cells.
use Rattle.std.proofs.Common.{◌≡◌, ℕ, ◌≤◌, nat_lt, Bool, true, false, ◌||◌, cond, List, [], ◌∷◌, length, refl, sym, ap, ◌∙◌, arith}
use Rattle.std.specs.List.{list_any, sum_by}
use Rattle.std.proofs.lemmas.Bool.Decides.{nat_tests}
use Rattle.std.proofs.lemmas.List.{length-map}
use Rattle.std.proofs.lemmas.List.Sums.{sum_by-cons}
use Rattle.std.specs.Option.{option_map_or}
use Rattle.sig_base.specs.declared.limits.TheConstants.{PARAMETERS_MAX_VERSION_1, TARGETS_MAX_VERSION_1}
use Rattle.model_core.specs.EventGraph.{EventGraph, EventVertex, EventEdge, Expression, Location, StateChange, Set, Draw, Delay, Fixed, Drawn, EdgeKind, Schedule, Urgent, CancelNext, CancelEqual, CancelAll, Variable, delay_given, is_drawn, has_drawn_delay}
use Rattle.model_core.specs.Text.VersionNeeded.{is_large_array, has_many_targets, has_later_parts}
use Rattle.model_core.specs.Rules.MarkedPlaces.{rank, is_marked}
use Rattle.model_core.specs.Rules.Slice.{location_renumbered, sliced_values, sliced_parameters, sliced_targets, set_or_nothing, sliced_change, delay_renumbered, sliced_kind, sliced_edge, sliced_vertex, of_marked_variables}
use Rattle.model_core.proofs.SomeOfAList.{SomeOf, nothing, with_it, without, some-marked_of, some-items_where_marked, some-few}
use Rattle.round_trip.proofs.VersionsKept.{NeedsNoMore, either_kept, needed-by, any-some, any-image, any-left}
use Rattle.var_slicing.proofs.KeptBeside.{variables_of, parameters-kept, targets-kept}

more_than : (limit a b : ℕ) → a ≤ b → nat_lt limit a ≡ true → nat_lt limit b ≡ true
more_than limit a b few e = grind (arith, nat_tests)

alone : (b : Bool) → (b || false) ≡ true → b ≡ true
alone true e = e
alone false e = e

pub parameters-few : (marks : List Bool) (vs : List ℕ) → length (sliced_parameters marks vs) ≤ length vs
parameters-few marks vs =
    let same = ap length (parameters-kept marks vs) ∙ length-map _ (rank marks) in
    let few = some-few (some-items_where_marked marks vs vs) in
    omega (arith, same, few)

pub targets-few : (marks : List Bool) (ls : List Location) → length (sliced_targets marks ls) ≤ length ls
targets-few marks ls =
    let same = ap length (targets-kept marks ls) ∙ length-map _ (location_renumbered (rank marks)) in
    let few = some-few (some-items_where_marked marks (variables_of ls) ls) in
    omega (arith, same, few)

set-needs : (most : ℕ) (ls : List Location) (es : List Expression) → length ls ≤ most → list_any has_many_targets (set_or_nothing ls es) ≡ true → nat_lt TARGETS_MAX_VERSION_1 most ≡ true
set-needs most [] [] few e = cc
set-needs most [] (x ∷ es) few e = cc
set-needs most (l ∷ ls) es few e = more_than TARGETS_MAX_VERSION_1 (length (l ∷ ls)) most few (alone (nat_lt TARGETS_MAX_VERSION_1 (length (l ∷ ls))) e)

change-needs : (marks : List Bool) (c : StateChange) → list_any has_many_targets (sliced_change marks c) ≡ true → has_many_targets c ≡ true
change-needs marks (Set targets rights) e = set-needs (length targets) (sliced_targets marks targets) (sliced_values marks (variables_of targets) rights) (targets-few marks targets) e
change-needs marks (Draw target stream choice) e = tested (is_marked marks target.variable) e where
  tested : (b : Bool) → list_any has_many_targets (cond b (Draw (location_renumbered (rank marks) target) stream choice ∷ []) []) ≡ true → false ≡ true
  tested true e = e
  tested false e = e

delay-needs : (f : ℕ → ℕ) (delay : Delay) → is_drawn (delay_renumbered f delay) ≡ is_drawn delay
delay-needs f (Fixed e) = refl
delay-needs f (Drawn stream choice) = refl

kind-needs : (marks : List Bool) (kind : EdgeKind) → option_map_or is_drawn (delay_given (sliced_kind marks kind)) false ≡ option_map_or is_drawn (delay_given kind) false
kind-needs marks (Schedule delay priority) = delay-needs (rank marks) delay
kind-needs marks Urgent = refl
kind-needs marks CancelNext = refl
kind-needs marks CancelEqual = refl
kind-needs marks CancelAll = refl

edge-needs : (g : EventGraph) (marks : List Bool) (e : EventEdge) → has_drawn_delay (sliced_edge g marks e) ≡ true → has_drawn_delay e ≡ true
edge-needs g marks e needs = sym (kind-needs marks e.kind) ∙ needs

vertex-needs : (g : EventGraph) (marks : List Bool) (v : EventVertex) → has_later_parts (sliced_vertex g marks v) ≡ true → has_later_parts v ≡ true
vertex-needs g marks v e =
    let left = sliced_vertex g marks v in
    either_kept (nat_lt PARAMETERS_MAX_VERSION_1 (length left.parameters) || list_any has_many_targets left.changes) (list_any has_drawn_delay left.edges) (nat_lt PARAMETERS_MAX_VERSION_1 (length v.parameters) || list_any has_many_targets v.changes) (list_any has_drawn_delay v.edges)
    (either_kept (nat_lt PARAMETERS_MAX_VERSION_1 (length left.parameters)) (list_any has_many_targets left.changes) (nat_lt PARAMETERS_MAX_VERSION_1 (length v.parameters)) (list_any has_many_targets v.changes)
    (more_than PARAMETERS_MAX_VERSION_1 (length left.parameters) (length v.parameters) (parameters-few marks v.parameters))
    (any-left has_many_targets has_many_targets (sliced_change marks) (change-needs marks) v.changes))
    (any-image has_drawn_delay has_drawn_delay (sliced_edge g marks) (edge-needs g marks) v.edges) e

pub needed-left : (g : EventGraph) (marks : List Bool) → NeedsNoMore (of_marked_variables g marks) g
needed-left g marks =
    needed-by (of_marked_variables g marks) g (any-some is_large_array (some-marked_of marks g.variables)) (any-image has_later_parts has_later_parts (sliced_vertex g marks) (vertex-needs g marks) g.vertices)

pub some-cells : {xs ys : List Variable} → SomeOf xs ys → sum_by (λ (v : Variable). v.size) xs ≤ sum_by (λ (v : Variable). v.size) ys
some-cells nothing = omega arith
some-cells (with_it v {xs = xs} {ys = ys} some) = omega (arith, sum_by-cons (λ (v : Variable). v.size) v xs, sum_by-cons (λ (v : Variable). v.size) v ys, some-cells some)
some-cells (without v {ys = ys} some) = omega (arith, sum_by-cons (λ (v : Variable). v.size) v ys, some-cells some)
