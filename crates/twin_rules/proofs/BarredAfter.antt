-- Whether a vertex is watched or cancelled isn't changed when two others are fused.
use Rattle.std.proofs.Common.{◌≡◌, ℕ, zero, suc, ◌==◌, Bool, true, false, ◌&&◌, ◌||◌, List, [], ◌∷◌, map, refl, sym, ◌∙◌, ap, ap₂}
use Rattle.std.specs.List.{list_any, remove}
use Rattle.model_core.specs.EventGraph.{EventGraph, EventVertex, EventEdge, Watched, WatchedVariable, WatchedVertex}
use Rattle.model_core.specs.Run.History.{watches}
use Rattle.model_core.specs.Rules.Drop.{edge_renumbered, vertex_renumbered, watched_renumbered}
use Rattle.model_core.specs.Rules.Merge.{is_cancelling, cancels, is_watched_vertex}
use Rattle.model_core.specs.Rules.MarkedPlaces.{place_without}
use Rattle.model_core.specs.Rules.Fuse.{fused_place, fused, can_be_cancelled}
use Rattle.model_core.proofs.EachOne.{either_false}
use Rattle.twin_rules.proofs.AlikeVertices.{AreAlike}
use Rattle.twin_rules.proofs.StillApart.{itself, places_same, unwatched-before, uncancelled-before}
use Rattle.twin_rules.specs.Inner.MarkedVertices.{one_marks, is_barred}

-- ---- tests that nothing passes

pub none-after : {A B : Type 0} (f : A → B) (test also : A → Bool) (test_too : B → Bool) → ((x : A) → test x ≡ false → also x ≡ false → test_too (f x) ≡ false) → (xs : List A) → list_any test xs ≡ false → list_any also xs ≡ false → list_any test_too (map f xs) ≡ false
none-after f test also test_too on [] none none_too = refl
none-after f test also test_too on (x ∷ xs) none none_too =
    let (here, later) = either_false (test x) (list_any test xs) none in
    let (here_too, later_too) = either_false (also x) (list_any also xs) none_too in
    ap₂ (λ a b. a || b) (on x here here_too) (none-after f test also test_too on xs later later_too)

none-left : {A : Type 0} (test : A → Bool) (xs : List A) (k : ℕ) → list_any test xs ≡ false → list_any test (remove xs k) ≡ false
none-left test [] zero none = refl
none-left test [] (suc k) none = refl
none-left test (x ∷ xs) zero none = (either_false (test x) (list_any test xs) none).1
none-left test (x ∷ xs) (suc k) none =
    let (here, later) = either_false (test x) (list_any test xs) none in
    ap₂ (λ a b. a || b) here (none-left test xs k later)

both-ways : (a b : Bool) → (a ≡ false → b ≡ false) → (b ≡ false → a ≡ false) → a ≡ b
both-ways true true there back = refl
both-ways true false there back = back refl
both-ways false true there back = sym (there refl)
both-ways false false there back = refl

module _ (g : EventGraph) (keep gone : ℕ) (are : AreAlike g keep gone) (x : ℕ) (apart : (x == gone) ≡ false) where
  abbrev h : EventGraph
  h = fused g keep gone

  abbrev f : ℕ → ℕ
  f = fused_place keep gone

  abbrev p : ℕ → ℕ
  p = place_without gone

  -- what leads neither there nor to `gone` doesn't lead there afterwards
  pub leads-after : (t : ℕ) → (t == x) ≡ false → (t == gone) ≡ false → (f t == p x) ≡ false
  leads-after t other stays = ap (λ k. k == p x) (itself g keep gone are t stays) ∙ (places_same g keep gone are x x apart apart t stays ∙ other)

  unwatched-after : is_watched_vertex g x ≡ false → is_watched_vertex h (p x) ≡ false
  unwatched-after none = none-after (watched_renumbered f) (watches x) (watches gone) (watches (p x)) one g.watch none are.gone_unwatched where
    one : (w : Watched) → watches x w ≡ false → watches gone w ≡ false → watches (p x) (watched_renumbered f w) ≡ false
    one (WatchedVariable v) e stays = refl
    one (WatchedVertex v) e stays = leads-after v e stays

  and-after : (a b c d : Bool) → (b ≡ false → c ≡ false → d ≡ false) → (a && b) ≡ false → (a && c) ≡ false → (a && d) ≡ false
  and-after true b c d on e stays = on e stays
  and-after false b c d on e stays = refl

  edges-after : (es : List EventEdge) → list_any (cancels x) es ≡ false → list_any (cancels gone) es ≡ false → list_any (cancels (p x)) (map (edge_renumbered f) es) ≡ false
  edges-after = none-after (edge_renumbered f) (cancels x) (cancels gone) (cancels (p x)) (λ e. and-after (is_cancelling e.kind) (e.target == x) (e.target == gone) (f e.target == p x) (leads-after e.target))

  uncancelled-after : can_be_cancelled g x ≡ false → can_be_cancelled h (p x) ≡ false
  uncancelled-after none =
      none-after (vertex_renumbered f) (one_marks true x) (one_marks true gone) (one_marks true (p x)) (λ (v : EventVertex). edges-after v.edges) (remove g.vertices gone)
      (none-left (one_marks true x) g.vertices gone none) (none-left (one_marks true gone) g.vertices gone are.gone_uncancelled)

  pub barred-after : is_barred h (p x) ≡ is_barred g x
  barred-after = ap₂ (λ a b. a || b)
      (both-ways (is_watched_vertex h (p x)) (is_watched_vertex g x) (unwatched-before g keep gone are x apart) unwatched-after)
      (both-ways (can_be_cancelled h (p x)) (can_be_cancelled g x) (uncancelled-before g keep gone are x apart) uncancelled-after)
