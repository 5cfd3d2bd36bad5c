-- Two vertices that aren't alike are still not alike after two others were fused, where no edge of theirs led to the one
-- that is gone.
use Rattle.std.proofs.Common.{◌≡◌, ℕ, zero, suc, ◌+◌, ◌-◌, ◌<◌, ◌==◌, nat_lt, Bool, true, false, ◌&&◌, ◌||◌, cond, List, [], ◌∷◌, map, length, slice_index_or, refl, sym, ◌∙◌, ap, ap₂, subst, arith, eq-eqb}
use Rattle.std.specs.List.{AllByRecursion, list_any, remove}
use Rattle.std.proofs.lemmas.Bool.Decides.{nat_tests}
use Rattle.std.proofs.lemmas.Bool.{eqb-true}
use Rattle.model_core.specs.EventGraph.{EventGraph, EventVertex, EventEdge, Watched, WatchedVariable, WatchedVertex}
use Rattle.model_core.specs.Run.Step.{no_vertex, vertex_at}
use Rattle.model_core.specs.Run.History.{watches}
use Rattle.model_core.specs.Rules.Drop.{edge_renumbered, vertex_renumbered, watched_renumbered}
use Rattle.model_core.specs.Rules.Merge.{is_cancelling, cancels, is_watched_vertex}
use Rattle.model_core.specs.Rules.MarkedPlaces.{place_without}
use Rattle.model_core.specs.Rules.Fuse.{standing_for, fused_place, fused, can_be_cancelled}
use Rattle.model_core.proofs.EachOne.{either_false}
use Rattle.model_core.proofs.PlacesChanged.{different}
use Rattle.model_core.proofs.FusedPlaces.{BesideIt, before, behind, beside, at-without, standing-itself, same-leading}
use Rattle.twin_rules.proofs.AlikeVertices.{AreAlike}
use Rattle.twin_rules.proofs.ValidFused.{length_h}
use Rattle.model_core.proofs.Images.{at-map}
use Rattle.twin_rules.specs.Inner.ComparedPairs.{place_before}

-- ---- tests that nothing passes

none-of_map : {A B : Type 0} (f : A → B) (test : A → Bool) (test_too : B → Bool) → ((x : A) → test_too (f x) ≡ false → test x ≡ false) → (xs : List A) → list_any test_too (map f xs) ≡ false → list_any test xs ≡ false
none-of_map f test test_too back [] none = refl
none-of_map f test test_too back (x ∷ xs) none =
    let (here, later) = either_false (test_too (f x)) (list_any test_too (map f xs)) none in
    ap₂ (λ a b. a || b) (back x here) (none-of_map f test test_too back xs later)

pub none-at : {A : Type 0} (test : A → Bool) (xs : List A) (k : ℕ) (d : A) → list_any test xs ≡ false → test d ≡ false → test (slice_index_or xs k d) ≡ false
none-at test [] k d none out = out
none-at test (x ∷ xs) zero d none out = (either_false (test x) (list_any test xs) none).0
none-at test (x ∷ xs) (suc k) d none out = none-at test xs k d (either_false (test x) (list_any test xs) none).1 out

none-with : {A : Type 0} (test : A → Bool) (xs : List A) (k : ℕ) (d : A) → list_any test (remove xs k) ≡ false → test (slice_index_or xs k d) ≡ false → list_any test xs ≡ false
none-with test [] k d none here = refl
none-with test (x ∷ xs) zero d none here = ap₂ (λ a b. a || b) here none
none-with test (x ∷ xs) (suc k) d none here =
    let (now, later) = either_false (test x) (list_any test (remove xs k)) none in
    ap₂ (λ a b. a || b) now (none-with test xs k d later here)

-- ---- places back

pub before-without : (gone v : ℕ) → (v == gone) ≡ false → place_before gone (place_without gone v) ≡ v
before-without gone v apart = by (beside gone v apart) where
  by : BesideIt gone v → place_before gone (place_without gone v) ≡ v
  by (before below is) = ap (place_before gone) is ∙ ap (λ b. cond b v (v + 1)) (let e : nat_lt v gone ≡ true = grind (arith, nat_tests) in e)
  by (behind above is) = ap (place_before gone) is ∙ (ap (λ b. cond b (v - 1) (v - 1 + 1)) (let e : nat_lt (v - 1) gone ≡ false = grind (arith, nat_tests) in e) ∙ (let e : v - 1 + 1 ≡ v = omega (arith, above) in e))

pub order-before : (gone x y : ℕ) → (x == gone) ≡ false → (y == gone) ≡ false → place_without gone x < place_without gone y → x < y
order-before gone x y p q less = by (beside gone x p) (beside gone y q) where
  by : BesideIt gone x → BesideIt gone y → x < y
  by (before a is) (before b is_too) = omega (arith, less, is, is_too)
  by (before a is) (behind b is_too) = omega (arith, a, b)
  by (behind a is) (before b is_too) = omega (arith, less, is, is_too, a, b)
  by (behind a is) (behind b is_too) = omega (arith, less, is, is_too, a, b)

pub within-before : (gone x n : ℕ) → (x == gone) ≡ false → gone < n → place_without gone x < n - 1 → x < n
within-before gone x n p within less = by (beside gone x p) where
  by : BesideIt gone x → x < n
  by (before a is) = omega (arith, a, within)
  by (behind a is) = omega (arith, is, a, less)

-- no edge leads there
abbrev pub NoneLeads : ℕ → List EventEdge → Type 0
NoneLeads v es = AllByRecursion (λ (e : EventEdge). (e.target == v) ≡ false) es

module _ (g : EventGraph) (keep gone : ℕ) (are : AreAlike g keep gone) where
  abbrev h : EventGraph
  h = fused g keep gone

  abbrev f : ℕ → ℕ
  f = fused_place keep gone

  abbrev p : ℕ → ℕ
  p = place_without gone

  pub placed : (x : ℕ) → (x == gone) ≡ false → vertex_at h (p x) ≡ vertex_renumbered f (vertex_at g x)
  placed x apart = at-map (vertex_renumbered f) (remove g.vertices gone) (p x) no_vertex ∙ ap (vertex_renumbered f) (at-without g.vertices gone x no_vertex apart)

  pub itself : (x : ℕ) → (x == gone) ≡ false → f x ≡ p x
  itself x apart = ap p (standing-itself keep gone are.first x apart)

  -- a vertex differs from another one if their places in the result differ
  apart-before : (x v : ℕ) → (x == gone) ≡ false → (f v == p x) ≡ false → (v == x) ≡ false
  apart-before x v apart e = by (v == x) refl where
    by : (b : Bool) → (v == x) ≡ b → b ≡ false
    by false is = refl
    by true is =
        let same : f v ≡ p x = ap f (eqb-true v x is) ∙ itself x apart in
        let moved_to : (f v == p x) ≡ true = ap (λ k. k == p x) same ∙ eq-eqb (p x) (p x) refl in
        sym moved_to ∙ e

  -- ---- watched

  pub unwatched-before : (x : ℕ) → (x == gone) ≡ false → is_watched_vertex h (p x) ≡ false → is_watched_vertex g x ≡ false
  unwatched-before x apart none = none-of_map (watched_renumbered f) (watches x) (watches (p x)) one g.watch none where
    one : (w : Watched) → watches (p x) (watched_renumbered f w) ≡ false → watches x w ≡ false
    one (WatchedVariable v) e = refl
    one (WatchedVertex v) e = apart-before x v apart e

  -- ---- cancelled

  and-before : (a b c : Bool) → (b ≡ false → c ≡ false) → (a && b) ≡ false → (a && c) ≡ false
  and-before true b c back e = back e
  and-before false b c back e = refl

  edges-before : (x : ℕ) → (x == gone) ≡ false → (es : List EventEdge) → list_any (cancels (p x)) (map (edge_renumbered f) es) ≡ false → list_any (cancels x) es ≡ false
  edges-before x apart es none = none-of_map (edge_renumbered f) (cancels x) (cancels (p x)) (λ e. and-before (is_cancelling e.kind) (f e.target == p x) (e.target == x) (apart-before x e.target apart)) es none

  abbrev one_cancels : ℕ → EventVertex → Bool
  one_cancels x v = list_any (cancels x) v.edges

  pub uncancelled-before : (x : ℕ) → (x == gone) ≡ false → can_be_cancelled h (p x) ≡ false → can_be_cancelled g x ≡ false
  uncancelled-before x apart none =
      let others : list_any (one_cancels x) (remove g.vertices gone) ≡ false = none-of_map (vertex_renumbered f) (one_cancels x) (one_cancels (p x)) (λ v. edges-before x apart v.edges) (remove g.vertices gone) none in
      let at_keep : list_any (cancels (p x)) (vertex_at h (p keep)).edges ≡ false = none-at (one_cancels (p x)) h.vertices (p keep) no_vertex none refl in
      let at_gone : list_any (cancels (p x)) (map (edge_renumbered f) (vertex_at g gone).edges) ≡ false =
      ap (list_any (cancels (p x))) (sym (same-leading keep gone are.first (vertex_at g keep).edges (vertex_at g gone).edges are.edges) ∙ ap (λ (v : EventVertex). v.edges) (sym (placed keep (different keep gone are.first)))) ∙ at_keep in
      none-with (one_cancels x) g.vertices gone no_vertex others (edges-before x apart (vertex_at g gone).edges at_gone)

  -- ---- edges

  module _ (x y : ℕ) (x-stays : (x == gone) ≡ false) (y-stays : (y == gone) ≡ false) where
    standing_for-other : (t : ℕ) → (t == gone) ≡ false → (standing_for x y t == gone) ≡ false
    standing_for-other t apart = by (t == y) where
      by : (b : Bool) → (cond b x t == gone) ≡ false
      by true = x-stays
      by false = apart

    pub places_same : (t : ℕ) → (t == gone) ≡ false → (p t == p y) ≡ (t == y)
    places_same t apart = by (beside gone t apart) (beside gone y y-stays) where
      by : BesideIt gone t → BesideIt gone y → (p t == p y) ≡ (t == y)
      by (before a is) (before b is_too) = ap₂ (λ i j. i == j) is is_too
      by (before a is) (behind b is_too) = ap₂ (λ i j. i == j) is is_too ∙ (let e : (t == (y - 1)) ≡ (t == y) = grind (arith, nat_tests) in e)
      by (behind a is) (before b is_too) = ap₂ (λ i j. i == j) is is_too ∙ (let e : ((t - 1) == y) ≡ (t == y) = grind (arith, nat_tests) in e)
      by (behind a is) (behind b is_too) = ap₂ (λ i j. i == j) is is_too ∙ (let e : ((t - 1) == (y - 1)) ≡ (t == y) = grind (arith, nat_tests) in e)

    standing_for-moved : (t : ℕ) → (t == gone) ≡ false → standing_for (p x) (p y) (p t) ≡ p (standing_for x y t)
    standing_for-moved t apart = ap (λ b. cond b (p x) (p t)) (places_same t apart) ∙ by (t == y) where
      by : (b : Bool) → cond b (p x) (p t) ≡ p (cond b x t)
      by true = refl
      by false = refl

    edge-back : (e : EventEdge) → (e.target == gone) ≡ false → edge_renumbered (place_before gone) (edge_renumbered (standing_for (p x) (p y)) (edge_renumbered f e)) ≡ edge_renumbered (standing_for x y) e
    edge-back e apart = ap (λ k. record e { target = k })
        (ap (λ k. place_before gone (standing_for (p x) (p y) k)) (itself e.target apart)
        ∙ (ap (place_before gone) (standing_for-moved e.target apart) ∙ before-without gone (standing_for x y e.target) (standing_for-other e.target apart)))

    edges-back : (es : List EventEdge) → NoneLeads gone es → map (edge_renumbered (place_before gone)) (map (edge_renumbered (standing_for (p x) (p y))) (map (edge_renumbered f) es)) ≡ map (edge_renumbered (standing_for x y)) es
    edges-back [] none = refl
    edges-back (e ∷ es) none = ap₂ (λ a as_. a ∷ as_) (edge-back e none.0) (edges-back es none.1)

    edges-same-before : (a b : List EventEdge) → NoneLeads gone a → NoneLeads gone b → map (edge_renumbered (standing_for (p x) (p y))) (map (edge_renumbered f) a) ≡ map (edge_renumbered (standing_for (p x) (p y))) (map (edge_renumbered f) b) → map (edge_renumbered (standing_for x y)) a ≡ map (edge_renumbered (standing_for x y)) b
    edges-same-before a b none none_too same = sym (edges-back a none) ∙ (ap (map (edge_renumbered (place_before gone))) same ∙ edges-back b none_too)

    pub alike-before : NoneLeads gone (vertex_at g x).edges → NoneLeads gone (vertex_at g y).edges → AreAlike h (p x) (p y) → AreAlike g x y
    alike-before none none_too alike =
        let at_x = placed x x-stays in
        let at_y = placed y y-stays in
        record {
          first = order-before gone x y x-stays y-stays alike.first;
          within = within-before gone y (length g.vertices) y-stays are.within (subst (λ n. p y < n) (length_h g keep gone are) alike.within);
          keep_unwatched = unwatched-before x x-stays alike.keep_unwatched;
          gone_unwatched = unwatched-before y y-stays alike.gone_unwatched;
          keep_uncancelled = uncancelled-before x x-stays alike.keep_uncancelled;
          gone_uncancelled = uncancelled-before y y-stays alike.gone_uncancelled;
          parameters = ap (λ (v : EventVertex). v.parameters) (sym at_x) ∙ (alike.parameters ∙ ap (λ (v : EventVertex). v.parameters) at_y);
          changes = ap (λ (v : EventVertex). v.changes) (sym at_x) ∙ (alike.changes ∙ ap (λ (v : EventVertex). v.changes) at_y);
          edges = edges-same-before (vertex_at g x).edges (vertex_at g y).edges none none_too
              (ap (λ (v : EventVertex). map (edge_renumbered (standing_for (p x) (p y))) v.edges) (sym at_x) ∙ (alike.edges ∙ ap (λ (v : EventVertex). map (edge_renumbered (standing_for (p x) (p y))) v.edges) at_y));
        }
