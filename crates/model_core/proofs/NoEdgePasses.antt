-- No edge passes a test: none is the first that does, and none passes where edges are taken away.
use Rattle.std.proofs.Common.{◌≡◌, ℕ, zero, suc, ◌+◌, Bool, true, false, cond, List, [], ◌∷◌, Option, Some, None, refl, ap, ◌∙◌}
use Rattle.std.specs.List.{AllByRecursion, position_from, remove}
use Rattle.model_core.specs.EventGraph.{EventEdge, EventVertex}
use Rattle.model_core.specs.Rules.PlacedEdges.{with_place, edge_or, first_edge}

module _ (test : EventEdge → Bool) where
  -- no edge of these passes
  abbrev pub NoneOf : List EventEdge → Type 0
  NoneOf es = AllByRecursion (λ e. test e ≡ false) es

  -- no edge of these vertices passes
  abbrev pub NoneIn : List EventVertex → Type 0
  NoneIn vs = AllByRecursion (λ (v : EventVertex). NoneOf v.edges) vs

  -- ---- the first edge that passes

  pub position_from-none : (n : ℕ) (es : List EventEdge) → NoneOf es → position_from test n es ≡ None
  position_from-none n [] none = refl
  position_from-none n (e ∷ es) none = ap (λ b. cond b (Some n) (position_from test (n + 1) es)) none.0 ∙ position_from-none (n + 1) es none.1

  pub first_edge-none : (n : ℕ) (vs : List EventVertex) → NoneIn vs → first_edge test n vs ≡ None
  first_edge-none n [] none = refl
  first_edge-none n (v ∷ vs) none = ap (λ o. edge_or n o (first_edge test (n + 1) vs)) (position_from-none 0 v.edges none.0) ∙ first_edge-none (n + 1) vs none.1

  none-position_from : (n : ℕ) (es : List EventEdge) → position_from test n es ≡ None → NoneOf es
  none-position_from n [] none = tt
  none-position_from n (e ∷ es) none = one (test e) refl none (none-position_from (n + 1) es) where
    one : (b : Bool) → test e ≡ b → cond b (Some n) (position_from test (n + 1) es) ≡ None → (position_from test (n + 1) es ≡ None → NoneOf es) → NoneOf (e ∷ es)
    one true passes none later = cc
    one false passes none later = (passes, later none)

  pub none-first_edge : (n : ℕ) (vs : List EventVertex) → first_edge test n vs ≡ None → NoneIn vs
  none-first_edge n [] none = tt
  none-first_edge n (v ∷ vs) none = one (position_from test 0 v.edges) refl none (none-first_edge (n + 1) vs) where
    one : (o : Option ℕ) → position_from test 0 v.edges ≡ o → edge_or n o (first_edge test (n + 1) vs) ≡ None → (first_edge test (n + 1) vs ≡ None → NoneIn vs) → NoneIn (v ∷ vs)
    one (Some k) here none later = cc
    one None here none later = (none-position_from 0 v.edges here, later none)

  -- ---- edges are taken away, or those of one vertex changed

  pub none-removed : (es : List EventEdge) (k : ℕ) → NoneOf es → NoneOf (remove es k)
  none-removed [] zero none = tt
  none-removed [] (suc k) none = tt
  none-removed (e ∷ es) zero none = none.1
  none-removed (e ∷ es) (suc k) none = (none.0, none-removed es k none.1)

  pub none-placed : (f : EventVertex → EventVertex) → ((v : EventVertex) → NoneOf v.edges → NoneOf (f v).edges) → (vs : List EventVertex) (k : ℕ) → NoneIn vs → NoneIn (with_place f k vs)
  none-placed f keeps [] k none = tt
  none-placed f keeps (v ∷ vs) zero none = (keeps v none.0, none.1)
  none-placed f keeps (v ∷ vs) (suc k) none = (none.0, none-placed f keeps vs k none.1)
