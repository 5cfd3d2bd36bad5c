-- Whether a model needs version 2 of a text, where one of its vertices is changed, and where an edge goes that draws no delay.
use Rattle.std.proofs.Common.{◌≡◌, ◌⊎◌, inl, inr, ℕ, zero, suc, nat_lt, Bool, true, false, ◌||◌, List, [], ◌∷◌, length, slice_get, Some, refl, sym, ◌∙◌, ap}
use Rattle.std.specs.List.{list_any, remove}
use Rattle.sig_base.specs.declared.limits.TheConstants.{PARAMETERS_MAX_VERSION_1}
use Rattle.model_core.specs.EventGraph.{EventGraph, EventVertex, EventEdge, has_drawn_delay}
use Rattle.model_core.specs.Text.VersionNeeded.{is_large_array, has_many_targets, has_later_parts, needs_version_two}
use Rattle.model_core.specs.Rules.PlacedEdges.{with_place, with_vertex}
use Rattle.model_core.specs.Rules.Prune.{without_edge, pruned}
use Rattle.model_core.proofs.Among.{either_true, first_true, second_true}
use Rattle.mark_laws.proofs.MarksBelow.{same_mark}

-- ---- one vertex changed

-- where the change makes a vertex need a later version, one of the vertices needed it, and none that needed it no longer does
module _ (f : EventVertex → EventVertex) (more : Bool) where
  abbrev Some_late : List EventVertex → Bool
  Some_late vs = list_any has_later_parts vs

  abbrev Gains : EventVertex → Type 0
  Gains v = has_later_parts (f v) ≡ true → (has_later_parts v ≡ true) ⊎ (more ≡ true)

  abbrev Keeps : EventVertex → Type 0
  Keeps v = has_later_parts v ≡ true → has_later_parts (f v) ≡ true

  pub gained : (k : ℕ) (vs : List EventVertex) → ((v : EventVertex) → slice_get vs k ≡ Some v → Gains v) → Some_late (with_place f k vs) ≡ true → (Some_late vs ≡ true) ⊎ (more ≡ true)
  gained k [] gains e = inl e
  gained zero (v ∷ vs) gains e = elim (either_true (has_later_parts (f v)) (Some_late vs) e) [
    | inl h ↦ elim (gains v refl h) [ inl i ↦ inl (first_true (has_later_parts v) (Some_late vs) i) | inr i ↦ inr i ]
    | inr h ↦ inl (second_true (has_later_parts v) (Some_late vs) h)
  ]
  gained (suc k) (v ∷ vs) gains e = elim (either_true (has_later_parts v) (Some_late (with_place f k vs)) e) [
    | inl h ↦ inl (first_true (has_later_parts v) (Some_late vs) h)
    | inr h ↦ elim (gained k vs gains h) [ inl i ↦ inl (second_true (has_later_parts v) (Some_late vs) i) | inr i ↦ inr i ]
  ]

  kept : (k : ℕ) (vs : List EventVertex) → ((v : EventVertex) → slice_get vs k ≡ Some v → Keeps v) → Some_late vs ≡ true → Some_late (with_place f k vs) ≡ true
  kept k [] keeps e = e
  kept zero (v ∷ vs) keeps e = elim (either_true (has_later_parts v) (Some_late vs) e) [
    | inl h ↦ first_true (has_later_parts (f v)) (Some_late vs) (keeps v refl h)
    | inr h ↦ second_true (has_later_parts (f v)) (Some_late vs) h
  ]
  kept (suc k) (v ∷ vs) keeps e = elim (either_true (has_later_parts v) (Some_late vs) e) [
    | inl h ↦ first_true (has_later_parts v) (Some_late (with_place f k vs)) h
    | inr h ↦ second_true (has_later_parts v) (Some_late (with_place f k vs)) (kept k vs keeps h)
  ]

  pub needed-same : (g : EventGraph) (k : ℕ) → ((v : EventVertex) → slice_get g.vertices k ≡ Some v → Gains v) → ((v : EventVertex) → slice_get g.vertices k ≡ Some v → Keeps v) → (more ≡ true → Some_late g.vertices ≡ true)
      → needs_version_two (with_vertex f k g) ≡ needs_version_two g
  needed-same g k gains keeps had =
      ap (λ b. list_any is_large_array g.variables || b)
      (same_mark (Some_late (with_place f k g.vertices)) (Some_late g.vertices) (λ e. elim (gained k g.vertices gains e) [ inl h ↦ h | inr h ↦ had h ]) (kept k g.vertices keeps))

-- ---- an edge that goes, whose delay isn't drawn

pub drawn-removed : (es : List EventEdge) (k : ℕ) → ((e : EventEdge) → slice_get es k ≡ Some e → has_drawn_delay e ≡ false) → list_any has_drawn_delay (remove es k) ≡ list_any has_drawn_delay es
drawn-removed [] zero undrawn = refl
drawn-removed [] (suc k) undrawn = refl
drawn-removed (e ∷ es) zero undrawn = sym (ap (λ b. b || list_any has_drawn_delay es) (undrawn e refl))
drawn-removed (e ∷ es) (suc k) undrawn = ap (λ b. has_drawn_delay e || b) (drawn-removed es k undrawn)

pub needed-pruned : (g : EventGraph) (vertex edge : ℕ) → ((v : EventVertex) → slice_get g.vertices vertex ≡ Some v → (e : EventEdge) → slice_get v.edges edge ≡ Some e → has_drawn_delay e ≡ false) → needs_version_two (pruned g vertex edge) ≡ needs_version_two g
needed-pruned g vertex edge undrawn =
    let same : (v : EventVertex) → slice_get g.vertices vertex ≡ Some v → has_later_parts (without_edge edge v) ≡ has_later_parts v = λ v there. ap (λ b. nat_lt PARAMETERS_MAX_VERSION_1 (length v.parameters) || list_any has_many_targets v.changes || b) (drawn-removed v.edges edge (undrawn v there)) in
    needed-same (without_edge edge) false g vertex (λ v there e. inl (sym (same v there) ∙ e)) (λ v there e. same v there ∙ e) (λ no. cc)
