-- What a drop of one vertex leaves the others of the lines of what they do: all of them.
use Rattle.std.proofs.Common.{◌≡◌, ◌⊎◌, inl, inr, ℕ, zero, suc, Bool, true, false, List, [], ◌∷◌, ◌++◌, map, length, slice_index_or, None, refl, sym, ap, arith, ◌∙◌}
use Rattle.std.specs.List.{flat_map, remove}
use Rattle.model_core.specs.EventGraph.{EventGraph, EventVertex}
use Rattle.model_core.specs.Run.Step.{no_vertex, vertex_at}
use Rattle.model_core.specs.Text.Canonical.{change_line, edge_line}
use Rattle.model_core.specs.Rules.Conditions.{first_failed}
use Rattle.model_core.specs.Rules.MarkedPlaces.{rank, marked_of, unmarked_places}
use Rattle.model_core.specs.Rules.Reached.{reached_marks, unreached}
use Rattle.model_core.specs.Rules.Drop.{vertex_renumbered, drop_conditions, only_marked, dropped}
use Rattle.model_core.proofs.Among.{Among}
use Rattle.model_core.proofs.Images.{at-map}
use Rattle.mark_laws.proofs.ReachedLong.{reached_marks-long}
use Rattle.edge_pruning.proofs.DropResult.{lists_unreached, without_unreached}
use Rattle.edge_pruning.proofs.DroppedLines.{unmarked-next, edges_same}
use Rattle.edge_pruning.proofs.ReachedMarks.{HoldReached, reached_marks-hold}

-- ---- what is left of a list

next-none : (ks : List ℕ) → map suc ks ≡ [] → ks ≡ []
next-none [] e = refl
next-none (k ∷ ks) e = cc

next-one : (ks : List ℕ) (n : ℕ) → map suc ks ≡ n ∷ [] → (m : ℕ) × (ks ≡ m ∷ []) × (suc m ≡ n)
next-one [] n e = cc
next-one (k ∷ ks) n e = let none : map suc ks ≡ [] = cc in (k, ap (λ ks. k ∷ ks) (next-none ks none), (let next : suc k ≡ n = cc in next))

all-left : {A : Type 0} (marks : List Bool) (xs : List A) → length marks ≡ length xs → unmarked_places marks ≡ [] → marked_of marks xs ≡ xs
all-left [] [] long none = refl
all-left [] (x ∷ xs) long none = absurd (omega (arith, long))
all-left (b ∷ bs) [] long none = absurd (omega (arith, long))
all-left (true ∷ bs) (x ∷ xs) long none = ap (λ ys. x ∷ ys) (all-left bs xs (omega (arith, long)) (next-none (unmarked_places bs) (sym (unmarked-next true bs) ∙ none)))
all-left (false ∷ bs) (x ∷ xs) long none = let no : 0 ∷ map suc (unmarked_places bs) ≡ [] = sym (unmarked-next false bs) ∙ none in cc

all-but-one-left : {A : Type 0} (marks : List Bool) (xs : List A) (gone : ℕ) → length marks ≡ length xs → unmarked_places marks ≡ gone ∷ [] → marked_of marks xs ≡ remove xs gone
all-but-one-left [] xs gone long one = cc
all-but-one-left (b ∷ bs) [] gone long one = absurd (omega (arith, long))
all-but-one-left (true ∷ bs) (x ∷ xs) gone long one =
    let (m, is, next) = next-one (unmarked_places bs) gone (sym (unmarked-next true bs) ∙ one) in
    ap (λ ys. x ∷ ys) (all-but-one-left bs xs m (omega (arith, long)) is) ∙ ap (remove (x ∷ xs)) next
all-but-one-left (false ∷ bs) (x ∷ xs) gone long one =
    let is : 0 ∷ map suc (unmarked_places bs) ≡ gone ∷ [] = sym (unmarked-next false bs) ∙ one in
    let front : 0 ≡ gone = cc in
    let none : map suc (unmarked_places bs) ≡ [] = cc in
    all-left bs xs (omega (arith, long)) (next-none (unmarked_places bs) none) ∙ ap (remove (x ∷ xs)) front

-- what is read at a place is among a list, or nothing is there
among-or-none : {A : Type 0} (xs : List A) (k : ℕ) (d : A) → Among (slice_index_or xs k d) xs ⊎ (slice_index_or xs k d ≡ d)
among-or-none [] k d = inr refl
among-or-none (x ∷ xs) zero d = inl (inl refl)
among-or-none (x ∷ xs) (suc k) d = elim (among-or-none xs k d) [ inl there ↦ inl (inr there) | inr none ↦ inr none ]

-- ---- the lines of what a vertex does

abbrev body : EventGraph → EventVertex → List ℕ
body g v = flat_map (change_line g) v.changes ++ flat_map (edge_line g) v.edges

module _ (g : EventGraph) (marks : List Bool) (hold : HoldReached g marks) (long : length marks ≡ length g.vertices) where
  abbrev h : EventGraph
  h = only_marked g marks

  abbrev kept : List EventVertex
  kept = marked_of marks g.vertices

  body-at : (k : ℕ) → body h (vertex_at h k) ≡ body g (slice_index_or kept k no_vertex)
  body-at k = ap (body h) (at-map (vertex_renumbered (rank marks)) kept k no_vertex) ∙ by (among-or-none kept k no_vertex) where
    by : Among (slice_index_or kept k no_vertex) kept ⊎ (slice_index_or kept k no_vertex ≡ no_vertex)
        → body h (vertex_renumbered (rank marks) (slice_index_or kept k no_vertex)) ≡ body g (slice_index_or kept k no_vertex)
    by (inl there) = ap (λ (lines : List ℕ). flat_map (change_line g) (slice_index_or kept k no_vertex).changes ++ lines) (edges_same g marks hold long (slice_index_or kept k no_vertex) there)
    by (inr none) = ap (λ (v : EventVertex). body h (vertex_renumbered (rank marks) v)) none ∙ sym (ap (body g) none)

pub lines-left : (g : EventGraph) (gone k : ℕ) → first_failed (drop_conditions g (gone ∷ [])) ≡ None
    → body (dropped g (gone ∷ [])) (vertex_at (dropped g (gone ∷ [])) k) ≡ body g (slice_index_or (remove g.vertices gone) k no_vertex)
lines-left g gone k holds =
    let is : gone ∷ [] ≡ unreached g = lists_unreached g (gone ∷ []) holds in
    ap (λ (vs : List ℕ). body (dropped g vs) (vertex_at (dropped g vs) k)) is
    ∙ ap (λ (x : EventGraph). body x (vertex_at x k)) (without_unreached g)
    ∙ body-at g (reached_marks g) (reached_marks-hold g) (reached_marks-long g) k
    ∙ ap (λ (vs : List EventVertex). body g (slice_index_or vs k no_vertex)) (all-but-one-left (reached_marks g) g.vertices gone (reached_marks-long g) (sym is))
