-- The result of a rule needs version 2 of a text only where the model did, so that its first line is no longer.
use Rattle.std.proofs.Common.{◌≡◌, inl, inr, ℕ, zero, suc, Bool, true, false, ◌||◌, List, [], ◌∷◌, ◌++◌, map, length, nat_lt, refl, sym, ◌∙◌, ap}
use Rattle.std.specs.Prelude.{codes}
use Rattle.std.specs.List.{flat_map, list_any}
use Rattle.std.proofs.lemmas.List.Folds.{list_any-append}
use Rattle.sig_base.specs.declared.limits.TheConstants.{PARAMETERS_MAX_VERSION_1}
use Rattle.model_core.specs.EventGraph.{EventGraph, EventVertex, EventEdge, Watched, has_drawn_delay}
use Rattle.model_core.specs.Text.Canonical.{version_line}
use Rattle.model_core.specs.Text.VersionNeeded.{is_large_array, has_many_targets, has_later_parts, needs_version_two}
use Rattle.model_core.specs.Rules.Drop.{edge_renumbered, vertex_renumbered}
use Rattle.model_core.specs.Rules.PlacedEdges.{with_place}
use Rattle.model_core.proofs.Among.{either_true, first_true, second_true}
use Rattle.model_core.proofs.NoLongerTexts.{NoLonger, no_longer-nothing, no_longer-before, no_longer-same}
use Rattle.model_core.proofs.SomeOfAList.{SomeOf, nothing, with_it, without}

-- ---- tests that no more lists pass

pub either_kept : (a b c d : Bool) → (a ≡ true → c ≡ true) → (b ≡ true → d ≡ true) → (a || b) ≡ true → (c || d) ≡ true
either_kept a b c d one other e = elim (either_true a b e) [ inl h ↦ first_true c d (one h) | inr h ↦ second_true c d (other h) ]

pub any-some : {A : Type 0} (test : A → Bool) {xs ys : List A} → SomeOf xs ys → list_any test xs ≡ true → list_any test ys ≡ true
any-some test nothing e = e
any-some test (with_it x {xs = xs} {ys = ys} some) e = either_kept (test x) (list_any test xs) (test x) (list_any test ys) (λ h. h) (any-some test some) e
any-some test (without y {ys = ys} some) e = second_true (test y) (list_any test ys) (any-some test some e)

pub any-image : {A B : Type 0} (old : A → Bool) (new : B → Bool) (f : A → B) → ((x : A) → new (f x) ≡ true → old x ≡ true) → (xs : List A) → list_any new (map f xs) ≡ true → list_any old xs ≡ true
any-image old new f each [] e = e
any-image old new f each (x ∷ xs) e = either_kept (new (f x)) (list_any new (map f xs)) (old x) (list_any old xs) (each x) (any-image old new f each xs) e

pub any-left : {A B : Type 0} (old : A → Bool) (new : B → Bool) (left : A → List B) → ((x : A) → list_any new (left x) ≡ true → old x ≡ true) → (xs : List A) → list_any new (flat_map left xs) ≡ true → list_any old xs ≡ true
any-left old new left each [] e = e
any-left old new left each (x ∷ xs) e =
    either_kept (list_any new (left x)) (list_any new (flat_map left xs)) (old x) (list_any old xs) (each x) (any-left old new left each xs) (sym (list_any-append new (left x) (flat_map left xs)) ∙ e)

pub any-replaced : {A : Type 0} (test : A → Bool) (f : A → A) → ((x : A) → test (f x) ≡ true → test x ≡ true) → (k : ℕ) (xs : List A) → list_any test (with_place f k xs) ≡ true → list_any test xs ≡ true
any-replaced test f each k [] e = e
any-replaced test f each zero (x ∷ xs) e = either_kept (test (f x)) (list_any test xs) (test x) (list_any test xs) (each x) (λ h. h) e
any-replaced test f each (suc k) (x ∷ xs) e = either_kept (test x) (list_any test (with_place f k xs)) (test x) (list_any test xs) (λ h. h) (any-replaced test f each k xs) e

-- ---- what is needed

-- the first model needs version 2 only where the second does
abbrev pub NeedsNoMore : EventGraph → EventGraph → Type 0
NeedsNoMore h g = needs_version_two h ≡ true → needs_version_two g ≡ true

pub needed-by : (h g : EventGraph) → (list_any is_large_array h.variables ≡ true → list_any is_large_array g.variables ≡ true) → (list_any has_later_parts h.vertices ≡ true → list_any has_later_parts g.vertices ≡ true) → NeedsNoMore h g
needed-by h g arrays parts e = either_kept (list_any is_large_array h.variables) (list_any has_later_parts h.vertices) (list_any is_large_array g.variables) (list_any has_later_parts g.vertices) arrays parts e

-- where the edges alone are others, and a delay is drawn only where one was
pub late_edges : (v : EventVertex) (edges : List EventEdge) → (list_any has_drawn_delay edges ≡ true → list_any has_drawn_delay v.edges ≡ true) → has_later_parts (record v { edges = edges }) ≡ true → has_later_parts v ≡ true
late_edges v edges drawn e =
    let others = nat_lt PARAMETERS_MAX_VERSION_1 (length v.parameters) || list_any has_many_targets v.changes in
    either_kept others (list_any has_drawn_delay edges) others (list_any has_drawn_delay v.edges) (λ h. h) drawn e

-- where one vertex is changed in its edges alone
pub needed-placed : (g : EventGraph) (change : List EventEdge → List EventEdge) → ((es : List EventEdge) → list_any has_drawn_delay (change es) ≡ true → list_any has_drawn_delay es ≡ true) → (k : ℕ)
    → NeedsNoMore (record g { vertices = with_place (λ (v : EventVertex). record v { edges = change v.edges }) k g.vertices }) g
needed-placed g change drawn k =
    let f : EventVertex → EventVertex = λ v. record v { edges = change v.edges } in
    needed-by (record g { vertices = with_place f k g.vertices }) g (λ h. h) (any-replaced has_later_parts f (λ v e. late_edges v (change v.edges) (drawn v.edges) e) k g.vertices)

-- where some of the vertices stay
pub needed-kept : (g : EventGraph) (kept : List EventVertex) (f : ℕ → ℕ) (watch : List Watched) → SomeOf kept g.vertices → NeedsNoMore (record g { watch = watch; vertices = map (vertex_renumbered f) kept }) g
needed-kept g kept f watch some =
    needed-by (record g { watch = watch; vertices = map (vertex_renumbered f) kept }) g (λ h. h) (λ e. any-some has_later_parts some (any-image has_later_parts has_later_parts (vertex_renumbered f) (λ v h. late_edges v (map (edge_renumbered f) v.edges) (any-image has_drawn_delay has_drawn_delay (edge_renumbered f) (λ e h. h) v.edges) h) kept e))

-- ---- the first lines

version_line-shorter : (b c : Bool) → (b ≡ true → c ≡ true) → NoLonger (version_line b) (version_line c)
version_line-shorter false c e = no_longer-nothing (version_line c)
version_line-shorter true c e = no_longer-same (version_line true) (version_line c) (ap version_line (sym (e refl)))

-- the line of the version and that of the name
pub heading-shorter : (h g : EventGraph) → NeedsNoMore h g → (name : List ℕ) → NoLonger (version_line (needs_version_two h) ++ codes "model " ++ name ++ codes ";\n") (version_line (needs_version_two g) ++ codes "model " ++ name ++ codes ";\n")
heading-shorter h g needs name = no_longer-before (codes ";\n") (no_longer-before name (no_longer-before (codes "model ") (version_line-shorter (needs_version_two h) (needs_version_two g) needs)))

-- and those of variables and tables that stay
pub declared-shorter : (h g : EventGraph) → NeedsNoMore h g → (name variables tables : List ℕ) → NoLonger (version_line (needs_version_two h) ++ codes "model " ++ name ++ codes ";\n" ++ variables ++ tables) (version_line (needs_version_two g) ++ codes "model " ++ name ++ codes ";\n" ++ variables ++ tables)
declared-shorter h g needs name variables tables = no_longer-before tables (no_longer-before variables (heading-shorter h g needs name))
