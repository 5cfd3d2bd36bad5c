-- A merge leaves it as it is whether a model needs version 2 of a text.
use Rattle.std.proofs.Common.{◌≡◌, ◌⊎◌, inl, ℕ, zero, suc, nat_lt, Bool, true, false, ◌||◌, List, [], ◌∷◌, ◌++◌, map, length, slice_index_or, Option, Some, None, refl, sym, ◌∙◌, ap, ap₂}
use Rattle.std.specs.List.{list_any, remove}
use Rattle.std.specs.Option.{option_map_or}
use Rattle.std.proofs.lemmas.List.{length-map}
use Rattle.std.proofs.lemmas.List.Folds.{list_any-append}
use Rattle.sig_base.specs.declared.limits.TheConstants.{PARAMETERS_MAX_VERSION_1, TARGETS_MAX_VERSION_1}
use Rattle.model_core.specs.EventGraph.{EventGraph, EventVertex, Expression, scalar_location, has_drawn_delay}
use Rattle.model_core.specs.Run.Step.{vertex_at, no_vertex}
use Rattle.model_core.specs.Text.VersionNeeded.{has_many_targets, has_later_parts, needs_version_two}
use Rattle.model_core.specs.Rules.Merge.{set_parameters, merged_vertex, merged_with, values_at_once, merged}
use Rattle.model_core.specs.Rules.UrgentEdges.{plain_urgent}
use Rattle.model_core.proofs.Among.{either_true, first_true, second_true}
use Rattle.vertex_laws.proofs.NeededVersion.{drawn-removed, needed-same}
use Rattle.merge_rules.proofs.SingleUrgentModels.PlainEdges.{plain_undrawn}

or_nothing : (b : Bool) → (b || false) ≡ b
or_nothing true = refl
or_nothing false = refl

-- the `set` of the parameters has many targets where these are many
set-many : (ps : List ℕ) (values : List Expression) → list_any has_many_targets (set_parameters ps values) ≡ nat_lt PARAMETERS_MAX_VERSION_1 (length ps)
set-many [] values = refl
set-many (p ∷ ps) values = or_nothing (nat_lt TARGETS_MAX_VERSION_1 (length (map scalar_location (p ∷ ps)))) ∙ ap (nat_lt TARGETS_MAX_VERSION_1) (length-map (p ∷ ps) scalar_location)

sorted : (p c q d : Bool) → (p || (c || q || d)) ≡ ((p || c) || (q || d))
sorted true c q d = refl
sorted false true q d = refl
sorted false false q d = refl

crossed : (a b x y : Bool) → ((a || b) || (x || y)) ≡ ((a || x) || (b || y))
crossed true b x y = refl
crossed false true true y = refl
crossed false true false y = refl
crossed false false x y = refl

pub joined-late : (b a : EventVertex) (values : List Expression) (place : ℕ) → plain_urgent a ≡ Some place → has_later_parts (merged_vertex b values a place) ≡ (has_later_parts a || has_later_parts b)
joined-late b a values place is =
    let many = λ (v : EventVertex). nat_lt PARAMETERS_MAX_VERSION_1 (length v.parameters) || list_any has_many_targets v.changes in
    ap₂ (λ m d. m || d)
    (ap (λ c. nat_lt PARAMETERS_MAX_VERSION_1 (length a.parameters) || c)
    (list_any-append has_many_targets (a.changes ++ set_parameters b.parameters values) b.changes
    ∙ ap (λ c. c || list_any has_many_targets b.changes)
    (list_any-append has_many_targets a.changes (set_parameters b.parameters values) ∙ ap (λ c. list_any has_many_targets a.changes || c) (set-many b.parameters values)))
    ∙ sorted (nat_lt PARAMETERS_MAX_VERSION_1 (length a.parameters)) (list_any has_many_targets a.changes) (nat_lt PARAMETERS_MAX_VERSION_1 (length b.parameters)) (list_any has_many_targets b.changes))
    (list_any-append has_drawn_delay (remove a.edges place) b.edges ∙ ap (λ d. d || list_any has_drawn_delay b.edges) (drawn-removed a.edges place (plain_undrawn a place is)))
    ∙ crossed (many a) (many b) (list_any has_drawn_delay a.edges) (list_any has_drawn_delay b.edges)

merge-gains : (b a : EventVertex) → has_later_parts (merged_with b a) ≡ true → (has_later_parts a ≡ true) ⊎ (has_later_parts b ≡ true)
merge-gains b a e = by_edge (plain_urgent a) refl e where
  by_edge : (o : Option ℕ) → plain_urgent a ≡ o → has_later_parts (option_map_or (merged_vertex b (values_at_once a) a) o a) ≡ true → (has_later_parts a ≡ true) ⊎ (has_later_parts b ≡ true)
  by_edge None is e = inl e
  by_edge (Some place) is e = either_true (has_later_parts a) (has_later_parts b) (sym (joined-late b a (values_at_once a) place is) ∙ e)

merge-keeps : (b a : EventVertex) → has_later_parts a ≡ true → has_later_parts (merged_with b a) ≡ true
merge-keeps b a e = by_edge (plain_urgent a) refl where
  by_edge : (o : Option ℕ) → plain_urgent a ≡ o → has_later_parts (option_map_or (merged_vertex b (values_at_once a) a) o a) ≡ true
  by_edge None is = e
  by_edge (Some place) is = joined-late b a (values_at_once a) place is ∙ first_true (has_later_parts a) (has_later_parts b) e

pub at_place : (vs : List EventVertex) (k : ℕ) → has_later_parts (slice_index_or vs k no_vertex) ≡ true → list_any has_later_parts vs ≡ true
at_place [] k e = e
at_place (v ∷ vs) zero e = first_true (has_later_parts v) (list_any has_later_parts vs) e
at_place (v ∷ vs) (suc k) e = second_true (has_later_parts v) (list_any has_later_parts vs) (at_place vs k e)

pub needed-merged : (g : EventGraph) (first second : ℕ) → needs_version_two (merged g first second) ≡ needs_version_two g
needed-merged g first second =
    let b = vertex_at g second in
    needed-same (merged_with b) (has_later_parts b) g first (λ v there. merge-gains b v) (λ v there. merge-keeps b v) (at_place g.vertices second)
