-- Lists without the element at one place, and with it changed, after one element more; and the line by which variables take values.
use Rattle.std.proofs.Common.{◌≡◌, ℕ, zero, suc, arith, ◌==◌, false, ◌<◌, ◌+◌, cond, List, [], ◌∷◌, ◌++◌, map, take, get_or, length, refl, sym, ◌∙◌, ap, ap₂, append-nil, append_assoc}
use Rattle.std.proofs.lemmas.Bool.Decides.{nat_tests}
use Rattle.std.proofs.lemmas.List.{length-map, length-take-le, flat_map_more}
use Rattle.std.specs.Prelude.{codes}
use Rattle.std.specs.List.{flat_map, remove}
use Rattle.model_core.specs.EventGraph.{EventGraph, EventVertex, Expression, Set, scalar_location}
use Rattle.model_core.specs.Text.Canonical.{variable_name, expression_texts, joined, location_text, change_line, vertex_lines, watched_name}
use Rattle.model_core.specs.Text.VersionNeeded.{needs_version_two}
use Rattle.model_core.specs.Rules.Merge.{set_parameters}
use Rattle.model_core.specs.Rules.PlacedEdges.{with_place}
use Rattle.model_core.specs.Rules.Prune.{without_edge, pruned}
use Rattle.model_core.proofs.SameNames.{SameNames, map_alike, flat_map_alike, vertex_alike, watched_alike}
use Rattle.model_core.proofs.PlacesChanged.{shown_placed}
use Rattle.sig_base.proofs.Lists.{seen_more}
use Rattle.model_print.proofs.Putting.{Both, two, put_as}
use Rattle.model_print.proofs.VersionLines.{declared}

apart : (k : ℕ) → (0 == suc k) ≡ false
apart k = grind (arith, nat_tests)

above : (k : ℕ) → (suc k == 0) ≡ false
above k = grind (arith, nat_tests)

later_same : (a b : ℕ) → (suc a == suc b) ≡ (a == b)
later_same a b = grind (arith, nat_tests)

remove_none : {A : Type 0} (none : List A) (k : ℕ) → none ≡ [] → remove none k ≡ []
remove_none [] zero is = refl
remove_none [] (suc k) is = refl
remove_none (x ∷ xs) k is = cc

flat_map_remove_more : {A : Type 0} (text : A → List ℕ) (xs : List A) (x : A) (k : ℕ) → flat_map text (remove xs k) ++ cond (length xs == k) [] (text x) ≡ flat_map text (remove (xs ++ x ∷ []) k)
flat_map_remove_more text [] x zero = refl
flat_map_remove_more text [] x (suc k) = ap (λ b. cond b [] (text x)) (apart k) ∙ sym (append-nil (text x)) ∙ ap (λ ys. text x ++ flat_map text ys) (sym (remove_none [] k refl))
flat_map_remove_more text (y ∷ ys) x zero = ap (λ b. flat_map text ys ++ cond b [] (text x)) (above (length ys)) ∙ flat_map_more text [] ys x
flat_map_remove_more text (y ∷ ys) x (suc k) =
    append_assoc (text y) (flat_map text (remove ys k)) (cond (suc (length ys) == suc k) [] (text x)) ∙ ap (λ b. text y ++ (flat_map text (remove ys k) ++ cond b [] (text x))) (later_same (length ys) k) ∙ ap (λ t. text y ++ t) (flat_map_remove_more text ys x k)

with_place_more : {A : Type 0} (f : A → A) (xs : List A) (x : A) (k : ℕ) → with_place f k (xs ++ x ∷ []) ≡ with_place f k xs ++ cond (length xs == k) (f x) x ∷ []
with_place_more f [] x zero = refl
with_place_more f [] x (suc k) = ap (λ b. cond b (f x) x ∷ []) (sym (apart k))
with_place_more f (y ∷ ys) x zero = ap (λ b. f y ∷ ys ++ cond b (f x) x ∷ []) (sym (above (length ys)))
with_place_more f (y ∷ ys) x (suc k) = ap (λ zs. y ∷ zs) (with_place_more f ys x k) ∙ ap (λ b. y ∷ with_place f k ys ++ cond b (f x) x ∷ []) (sym (later_same (length ys) k))

-- ---- what a loop has put after one element more

module _ {S : Type 0} {adds : S → S → List ℕ → Type 0} (both : Both adds) {X Y : Type 0} (view : X → Y) (text : Y → List ℕ) where
  so_many : (xs : List X) (i : ℕ) → i < length xs → length (map view (take i xs)) ≡ i
  so_many xs i below = length-map (take i xs) view ∙ length-take-le i xs (omega (arith, below))

  pub more_but_one : {s t u : S} (xs : List X) (i : ℕ) (x : X) (k : ℕ) → i < length xs → x ≡ get_or xs i x → adds s t (flat_map text (remove (map view (take i xs)) k)) → adds t u (cond (i == k) [] (text (view x))) → adds s u (flat_map text (remove (map view (take (i + 1) xs)) k))
  more_but_one {s} {t} {u} xs i x k below is so_far put =
      put_as both _
      (ap (λ n. flat_map text (remove (map view (take i xs)) k) ++ cond (n == k) [] (text (view x))) (sym (so_many xs i below))
      ∙ flat_map_remove_more text (map view (take i xs)) (view x) k
      ∙ ap (λ ys. flat_map text (remove ys k)) (sym (seen_more view xs i x below is)))
      (two both so_far put)

  pub more_with_one : {s t u : S} (f : Y → Y) (xs : List X) (i : ℕ) (x : X) (k : ℕ) → i < length xs → x ≡ get_or xs i x → adds s t (flat_map text (with_place f k (map view (take i xs)))) → adds t u (text (cond (i == k) (f (view x)) (view x))) → adds s u (flat_map text (with_place f k (map view (take (i + 1) xs))))
  more_with_one {s} {t} {u} f xs i x k below is so_far put =
      put_as both _
      (ap (λ n. flat_map text (with_place f k (map view (take i xs))) ++ text (cond (n == k) (f (view x)) (view x))) (sym (so_many xs i below))
      ∙ flat_map_more text [] (with_place f k (map view (take i xs))) (cond (length (map view (take i xs)) == k) (f (view x)) (view x))
      ∙ ap (flat_map text) (sym (with_place_more f (map view (take i xs)) (view x) k))
      ∙ ap (λ ys. flat_map text (with_place f k ys)) (sym (seen_more view xs i x below is)))
      (two both so_far put)

-- ---- the model without an edge has the same names

without_edge_names : (g : EventGraph) (vertex edge : ℕ) → SameNames g (pruned g vertex edge)
without_edge_names g vertex edge = record {
  variable = λ v. refl;
  table = λ t. refl;
  vertex = shown_placed (λ (v : EventVertex). v.name) (without_edge edge) [] (λ v. refl) vertex g.vertices;
}

pub same_declarations : (g : EventGraph) (vertex edge : ℕ) → declared g (needs_version_two (pruned g vertex edge)) (map (watched_name g) g.watch) ≡ declared g (needs_version_two (pruned g vertex edge)) (map (watched_name (pruned g vertex edge)) g.watch)
same_declarations g vertex edge = ap (declared g (needs_version_two (pruned g vertex edge))) (map_alike (watched_name g) (watched_name (pruned g vertex edge)) (watched_alike g (pruned g vertex edge) (without_edge_names g vertex edge)) g.watch)

pub same_lines : (g : EventGraph) (vertex edge : ℕ) (vs : List EventVertex) → flat_map (vertex_lines g) vs ≡ flat_map (vertex_lines (pruned g vertex edge)) vs
same_lines g vertex edge vs = flat_map_alike (vertex_lines g) (vertex_lines (pruned g vertex edge)) (vertex_alike g (pruned g vertex edge) (without_edge_names g vertex edge)) vs

-- ---- the line of a `set`

scalars_written : (g : EventGraph) (ps : List ℕ) → map (variable_name g) ps ≡ map (location_text g) (map scalar_location ps)
scalars_written g [] = refl
scalars_written g (p ∷ ps) = ap₂ (λ t ts. t ∷ ts) (sym (append-nil (variable_name g p))) (scalars_written g ps)

pub set_written : (g : EventGraph) (ps : List ℕ) (values : List Expression) → ¬ ps ≡ [] → codes "  set " ++ joined (map (variable_name g) ps) ++ codes " := " ++ joined (expression_texts g values) ++ codes ";\n" ≡ flat_map (change_line g) (set_parameters ps values)
set_written g [] values some = absurd (some refl)
set_written g (p ∷ ps) values some =
    ap (λ ts. codes "  set " ++ joined ts ++ codes " := " ++ joined (expression_texts g values) ++ codes ";\n") (scalars_written g (p ∷ ps))
    ∙ sym (append-nil (change_line g (Set (map scalar_location (p ∷ ps)) values)))
