-- Of two valid models that are the same, where the variables of the second are declared in the first, both declare the same.
use Rattle.std.proofs.Common.{◌≡◌, ℕ, zero, suc, ◌<◌, false, List, [], ◌∷◌, ◌++◌, map, length, refl, sym, ap, ◌∙◌, true≢false}
use Rattle.std.specs.Prelude.{slice_get, slice_index_or, Some}
use Rattle.std.specs.List.{AllByRecursion, IsDistinct}
use Rattle.std.proofs.lemmas.Option.{same_Some, slice_get_within, slice_get-get_or}
use lib.Pointwise.{bytes_decides}
use Rattle.model_core.specs.EventGraph.{EventGraph, EventVertex, Variable, WeightTable, Watched, WatchedVariable, WatchedVertex, watched_variables}
use Rattle.model_core.specs.Text.Lexing.{same_bytes}
use Rattle.model_core.specs.Text.Spellable.{declared_names}
use Rattle.model_core.specs.Run.State.{variable_at, no_variable}
use Rattle.model_core.specs.Run.Step.{vertex_at, no_vertex}
use Rattle.model_core.specs.Run.Same.{WatchedName, VariableNamed, VertexNamed, watched_name_of, parameter, Same}
use Rattle.model_core.specs.Static.OwnRules.{IsWatchable, IsParameter, KeepsVertex, KeepsParts, parameters_of}
use Rattle.alike_laws.specs.DeclaredAlike.{Shape, shape_at, DeclaredAlike}
use Rattle.static_laws.proofs.StaticTwins.NumberedPlaces.{distinct_front}
use Rattle.normal_form.proofs.DeclaredFrom.{DeclaredFrom}

-- ---- one name, one variable

differs-from-later : (v : Variable) (vs : List Variable) → AllByRecursion (λ n. same_bytes v.name n ≡ false) (map (λ (x : Variable). x.name) vs) → (k : ℕ) (y : Variable) → slice_get vs k ≡ Some y → v.name ≡ y.name → ⊥
differs-from-later v [] apart k y there e = cc
differs-from-later v (w ∷ ws) apart zero y there e =
    true≢false (sym ((bytes_decides v.name w.name).1 (e ∙ ap (λ (x : Variable). x.name) (sym (same_Some w y there)))) ∙ apart.0)
differs-from-later v (w ∷ ws) apart (suc k) y there e = differs-from-later v ws apart.1 k y there e

one-variable : (vs : List Variable) → IsDistinct same_bytes (map (λ (x : Variable). x.name) vs) → (j k : ℕ) (x y : Variable) → slice_get vs j ≡ Some x → slice_get vs k ≡ Some y → x.name ≡ y.name → x ≡ y
unfolding IsDistinct
one-variable [] apart j k x y here there e = cc
one-variable (v ∷ vs) apart zero zero x y here there e = sym (same_Some v x here) ∙ same_Some v y there
one-variable (v ∷ vs) apart zero (suc k) x y here there e = absurd (differs-from-later v vs apart.0 k y there (ap (λ (z : Variable). z.name) (same_Some v x here) ∙ e))
one-variable (v ∷ vs) apart (suc j) zero x y here there e = absurd (differs-from-later v vs apart.0 j x here (ap (λ (z : Variable). z.name) (same_Some v y there) ∙ sym e))
one-variable (v ∷ vs) apart (suc j) (suc k) x y here there e = one-variable vs apart.1 j k x y here there e

-- ---- heads and tails of equal lists

abbrev head-or : {A : Type 0} → A → List A → A
head-or d [] = d
head-or d (x ∷ xs) = x

abbrev tail-of : {A : Type 0} → List A → List A
tail-of [] = []
tail-of (x ∷ xs) = xs

abbrev bytes-of : WatchedName → List ℕ
bytes-of (VariableNamed name) = name
bytes-of (VertexNamed name) = name

both-equal : {A : Type 0} (a b : A) (as_ bs : List A) → a ≡ b → as_ ≡ bs → (a ∷ as_) ≡ (b ∷ bs)
both-equal a b as_ bs h k = rw (h, k) refl

-- ---- two models

module _ (g h : EventGraph) (from : DeclaredFrom g.variables h.variables) (apart : IsDistinct same_bytes (map (λ (x : Variable). x.name) g.variables)) where
  abbrev shape-of : Variable → Shape
  shape-of v = record { kind = v.kind; size = v.size }

  one-shape : (v w : Variable) → v.kind ≡ w.kind → v.size ≡ w.size → shape-of v ≡ shape-of w
  one-shape v w kind size = rw (kind, size) refl

  shape-kept : (v w : ℕ) → v < length g.variables → w < length h.variables → (variable_at g v).name ≡ (variable_at h w).name → shape_at g v ≡ shape_at h w
  shape-kept v w in_g in_h same =
      let is = from w (variable_at h w) (slice_get-get_or h.variables w no_variable in_h) in
      let one = one-variable g.variables apart v is.place (variable_at g v) is.found (slice_get-get_or g.variables v no_variable in_g) is.there (same ∙ sym is.name) in
      ap shape-of one ∙ one-shape is.found (variable_at h w) is.kind is.size

  shapes-kept : (ws us : List Watched) → AllByRecursion (IsWatchable (length g.variables) (length g.vertices)) ws → AllByRecursion (IsWatchable (length h.variables) (length h.vertices)) us → map (watched_name_of g) ws ≡ map (watched_name_of h) us → map (shape_at g) (watched_variables ws) ≡ map (shape_at h) (watched_variables us)
  shapes-kept [] [] p q e = refl
  shapes-kept [] (u ∷ us) p q e = cc
  shapes-kept (w ∷ ws) [] p q e = cc
  shapes-kept (WatchedVariable v ∷ ws) (WatchedVariable w ∷ us) p q e =
      both-equal (shape_at g v) (shape_at h w) (map (shape_at g) (watched_variables ws)) (map (shape_at h) (watched_variables us))
      (shape-kept v w p.0 q.0 (ap (λ ns. bytes-of (head-or (VariableNamed []) ns)) e))
      (shapes-kept ws us p.1 q.1 (ap tail-of e))
  shapes-kept (WatchedVertex v ∷ ws) (WatchedVertex w ∷ us) p q e = shapes-kept ws us p.1 q.1 (ap tail-of e)
  shapes-kept (WatchedVariable v ∷ ws) (WatchedVertex w ∷ us) p q e = cc
  shapes-kept (WatchedVertex v ∷ ws) (WatchedVariable w ∷ us) p q e = cc

  kinds-kept : (vs ws : List ℕ) → AllByRecursion (IsParameter g.variables (length g.tables) (parameters_of g)) vs → AllByRecursion (IsParameter h.variables (length h.tables) (parameters_of h)) ws → map (λ v. parameter (variable_at g v)) vs ≡ map (λ v. parameter (variable_at h v)) ws → map (λ v. (variable_at g v).kind) vs ≡ map (λ v. (variable_at h v).kind) ws
  kinds-kept [] [] p q e = refl
  kinds-kept [] (w ∷ ws) p q e = cc
  kinds-kept (v ∷ vs) [] p q e = cc
  kinds-kept (v ∷ vs) (w ∷ ws) p q e =
      let in_g = slice_get_within g.variables v p.0.1.variable p.0.1.there in
      let in_h = slice_get_within h.variables w q.0.1.variable q.0.1.there in
      let named = ap (λ ps. (head-or (parameter (variable_at g v)) ps).name) e in
      both-equal (variable_at g v).kind (variable_at h w).kind (map (λ x. (variable_at g x).kind) vs) (map (λ x. (variable_at h x).kind) ws)
      (ap (λ (s : Shape). s.kind) (shape-kept v w in_g in_h named))
      (kinds-kept vs ws p.1 q.1 (ap tail-of e))

-- the parameters of the first vertex are scalars
first-parameters-there : (g : EventGraph) → KeepsParts g → AllByRecursion (IsParameter g.variables (length g.tables) (parameters_of g)) (vertex_at g 0).parameters
first-parameters-there g parts = by g.vertices parts.vertices
  where
    by : (vs : List EventVertex) → AllByRecursion (KeepsVertex g.variables (length g.tables) (parameters_of g)) vs → AllByRecursion (IsParameter g.variables (length g.tables) (parameters_of g)) (slice_index_or vs 0 no_vertex).parameters
    by [] keeps = tt
    by (v ∷ vs) keeps = keeps.0.parameters

variables-apart : (g : EventGraph) → IsDistinct same_bytes (declared_names g) → IsDistinct same_bytes (map (λ (x : Variable). x.name) g.variables)
variables-apart g apart =
    let variables = map (λ (x : Variable). x.name) g.variables in
    let tables = map (λ (x : WeightTable). x.name) g.tables in
    distinct_front variables tables (distinct_front (variables ++ tables) (map (λ (x : EventVertex). x.name) g.vertices) apart)

pub same-declares : (g h : EventGraph) → DeclaredFrom g.variables h.variables → KeepsParts g → KeepsParts h → Same g h → DeclaredAlike g h
same-declares g h from parts left same =
    let apart = variables-apart g parts.declared_once in
    record {
      watched = same.watched;
      shapes = shapes-kept g h from apart g.watch h.watch parts.watch left.watch same.watched;
      started = same.started;
      kinds = kinds-kept g h from apart (vertex_at g 0).parameters (vertex_at h 0).parameters (first-parameters-there g parts) (first-parameters-there h left) same.started;
    }
