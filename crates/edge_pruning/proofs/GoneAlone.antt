-- A drop of one vertex alone doesn't look into that vertex: two graphs that differ there alone have the same conditions and the
-- same result.
use Rattle.std.proofs.Common.{◌≡◌, ◌⊎◌, inl, inr, ℕ, zero, suc, ◌<◌, ◌==◌, nat_lt, Bool, true, false, not, ◌&&◌, ◌||◌, eq-eqb, List, [], ◌∷◌, map, length, Contains, refl, sym, ap, subst, arith, ◌∙◌}
use Rattle.std.specs.List.{list_any}
use Rattle.std.proofs.lemmas.Bool.Decides.{nat_tests}
use Rattle.std.proofs.lemmas.Bool.{cases_Bool}
use Rattle.model_core.specs.EventGraph.{EventGraph, EventVertex, Watched, WatchedVertex}
use Rattle.model_core.specs.Run.Step.{no_vertex, vertex_at}
use Rattle.model_core.specs.Rules.MarkedPlaces.{rank, marked_of, is_marked, unmarked_places}
use Rattle.model_core.specs.Rules.PlacedEdges.{with_place, with_vertex}
use Rattle.model_core.specs.Rules.Reached.{reached_marks, unreached}
use Rattle.model_core.specs.Rules.LeastRelations.{Reachable, reach_first, reach_watched, reach_over}
use Rattle.model_core.specs.Rules.Drop.{lists_exactly, drop_conditions, staying_marks, vertex_renumbered, watched_renumbered, only_marked, dropped}
use Rattle.model_core.proofs.PlacesChanged.{length_placed, placed-elsewhere, same_number}
use Rattle.mark_laws.proofs.Marks.{Marked}
use Rattle.mark_laws.proofs.MarksBelow.{same_mark, tested-marked, marked-tested}
use Rattle.mark_laws.proofs.ReachedLong.{reached_marks-long}
use Rattle.mark_laws.proofs.StayingMarks.{staying-unmarked, exactly-equal}
use Rattle.mark_laws.proofs.UnmarkedPlaces.{apart-or-same, none_unmarked}
use Rattle.edge_pruning.proofs.PlacesLeftOut.{one-more-left-out}
use Rattle.edge_pruning.proofs.ReachedAfterMerge.{one_unmarked}
use Rattle.edge_pruning.proofs.ReachedMarks.{reachable-marked, reached_marks-hold, reached_marks-reachable}

-- ---- marks of all places but one

module _ (marks : List Bool) (b : ℕ) (one : unmarked_places marks ≡ b ∷ []) where
  abbrev stays : ℕ → Bool
  stays k = not (list_any (λ v. v == k) (b ∷ []))

  are : staying_marks (b ∷ []) (length marks) ≡ marks
  are = ap (λ (vs : List ℕ). staying_marks vs (length marks)) (sym one) ∙ staying-unmarked marks

  apart-stays : (k : ℕ) → (k == b) ≡ false → stays k ≡ true
  apart-stays k apart = let e : (b == k) ≡ false = grind (arith, nat_tests) in ap (λ t. not (t || false)) e

  others-marked : (k : ℕ) → k < length marks → (k == b) ≡ false → Marked marks k
  others-marked k below apart = subst (λ ms. Marked ms k) are (tested-marked stays (length marks) k below (apart-stays k apart))

  never-marked : Marked marks b → ⊥
  never-marked marked =
      let stays_there : stays b ≡ true = marked-tested stays (length marks) b (subst (λ ms. Marked ms b) (sym are) marked) in
      let gone : stays b ≡ false = ap (λ t. not (t || false)) (same_number b b refl) in
      let no : true ≡ false = sym stays_there ∙ gone in cc

  is-within : b < length marks
  is-within = by (cases_Bool (nat_lt b (length marks))) where
    by : (nat_lt b (length marks) ≡ true) ⊎ (nat_lt b (length marks) ≡ false) → b < length marks
    by (inl e) = grind (arith, nat_tests)
    by (inr e) =
        let none : unmarked_places marks ≡ [] = none_unmarked marks (λ k below. others-marked k below (let apart : (k == b) ≡ false = grind (arith, nat_tests) in apart)) in
        let no : b ∷ [] ≡ [] = sym one ∙ none in cc

-- ---- two graphs that differ in one vertex at most

record Alike (g h : EventGraph) (gone : ℕ) : Type 0 where
  watch : g.watch ≡ h.watch
  long : length g.vertices ≡ length h.vertices
  elsewhere : (k : ℕ) → (k == gone) ≡ false → vertex_at g k ≡ vertex_at h k

turned : {g h : EventGraph} {gone : ℕ} → Alike g h gone → Alike h g gone
turned alike = record { watch = sym alike.watch; long = sym alike.long; elsewhere = λ k apart. sym (alike.elsewhere k apart) }

-- what can be reached in the one can be in the other, unless that vertex can be there
still : (g h : EventGraph) (gone : ℕ) → Alike g h gone → {k : ℕ} → Reachable g k → Reachable h k ⊎ Reachable h gone
still g h gone alike reach_first = inl reach_first
still g h gone alike (reach_watched vertex contains) = inl (reach_watched vertex (subst (λ (ws : List Watched). Contains ws (WatchedVertex vertex)) alike.watch contains))
still g h gone alike (reach_over v e before contains) = by (still g h gone alike before) where
  over : Reachable h v → (v ≡ gone) ⊎ ((v == gone) ≡ false) → Reachable h e.target ⊎ Reachable h gone
  over r (inl is) = inr (subst (Reachable h) is r)
  over r (inr apart) = inl (reach_over v e r (subst (λ (w : EventVertex). Contains w.edges e) (alike.elsewhere v apart) contains))

  by : Reachable h v ⊎ Reachable h gone → Reachable h e.target ⊎ Reachable h gone
  by (inl r) = over r (apart-or-same v gone)
  by (inr r) = inr r

unreached-alike : (g h : EventGraph) (gone : ℕ) → Alike g h gone → unreached g ≡ gone ∷ [] → unreached h ≡ gone ∷ []
unreached-alike g h gone alike one = one_unmarked (reached_marks h) gone (omega (arith, within, same_long)) unmarked others where
  within : gone < length (reached_marks g)
  within = is-within (reached_marks g) gone one

  same_long : length (reached_marks g) ≡ length (reached_marks h)
  same_long = reached_marks-long g ∙ alike.long ∙ sym (reached_marks-long h)

  never : Reachable g gone → ⊥
  never r = never-marked (reached_marks g) gone one (reachable-marked g (reached_marks g) (reached_marks-hold g) r (omega (arith, within, reached_marks-long g)))

  never_there : Reachable h gone → ⊥
  never_there r = by (still h g gone (turned alike) r) where
    by : Reachable g gone ⊎ Reachable g gone → ⊥
    by (inl r) = never r
    by (inr r) = never r

  unmarked : is_marked (reached_marks h) gone ≡ false
  unmarked = by (cases_Bool (is_marked (reached_marks h) gone)) where
    by : (is_marked (reached_marks h) gone ≡ true) ⊎ (is_marked (reached_marks h) gone ≡ false) → is_marked (reached_marks h) gone ≡ false
    by (inl marked) = absurd (never_there (reached_marks-reachable h gone marked))
    by (inr e) = e

  others : (k : ℕ) → k < length (reached_marks h) → (k == gone) ≡ false → Marked (reached_marks h) k
  others k below apart = by (still g h gone alike (reached_marks-reachable g k (others-marked (reached_marks g) gone one k (omega (arith, below, same_long)) apart))) where
    by : Reachable h k ⊎ Reachable h gone → Marked (reached_marks h) k
    by (inl r) = reachable-marked h (reached_marks h) (reached_marks-hold h) r (omega (arith, below, reached_marks-long h))
    by (inr r) = absurd (never_there r)

itself : (k : ℕ) → lists_exactly (k ∷ []) (k ∷ []) ≡ true
itself k = ap (λ b. b && true) (eq-eqb k k refl)

exactly-alike : (g h : EventGraph) (gone : ℕ) → Alike g h gone → lists_exactly (gone ∷ []) (unreached g) ≡ true → lists_exactly (gone ∷ []) (unreached h) ≡ true
exactly-alike g h gone alike e =
    ap (lists_exactly (gone ∷ [])) (unreached-alike g h gone alike (sym (exactly-equal (gone ∷ []) (unreached g) e))) ∙ itself gone

-- ---- the graph without the vertex

marked_of-elsewhere : {A : Type 0} (f : A → A) (marks : List Bool) (k : ℕ) (xs : List A) → is_marked marks k ≡ false → marked_of marks (with_place f k xs) ≡ marked_of marks xs
marked_of-elsewhere f [] k xs unmarked = refl
marked_of-elsewhere f (b ∷ bs) k [] unmarked = refl
marked_of-elsewhere f (true ∷ bs) zero (x ∷ xs) unmarked = cc
marked_of-elsewhere f (false ∷ bs) zero (x ∷ xs) unmarked = refl
marked_of-elsewhere f (true ∷ bs) (suc k) (x ∷ xs) unmarked = ap (λ ys. x ∷ ys) (marked_of-elsewhere f bs k xs unmarked)
marked_of-elsewhere f (false ∷ bs) (suc k) (x ∷ xs) unmarked = marked_of-elsewhere f bs k xs unmarked

unmarked-there : (k : ℕ) (marks : List Bool) → is_marked (with_place (λ mark. false) k marks) k ≡ false
unmarked-there k [] = refl
unmarked-there zero (b ∷ bs) = refl
unmarked-there (suc k) (b ∷ bs) = unmarked-there k bs

one-unmarked : (k n : ℕ) → is_marked (staying_marks (k ∷ []) n) k ≡ false
one-unmarked k n = ap (λ (ms : List Bool). is_marked ms k) (sym (one-more-left-out [] k n)) ∙ unmarked-there k (staying_marks [] n)

module _ (g : EventGraph) (f : EventVertex → EventVertex) (gone : ℕ) where
  abbrev h : EventGraph
  h = with_vertex f gone g

  alike : Alike g h gone
  alike = record { watch = refl; long = sym (length_placed f gone g.vertices); elsewhere = λ k apart. sym (placed-elsewhere f gone k g.vertices no_vertex apart) }

  pub same-conditions : drop_conditions h (gone ∷ []) ≡ drop_conditions g (gone ∷ [])
  same-conditions = ap (λ b. true ∷ b ∷ []) (same_mark _ _ (exactly-alike h g gone (turned alike)) (exactly-alike g h gone alike))

  pub same-unreached : unreached g ≡ gone ∷ [] → unreached h ≡ gone ∷ []
  same-unreached = unreached-alike g h gone alike

  pub same-left : dropped h (gone ∷ []) ≡ dropped g (gone ∷ [])
  same-left =
      let marks = staying_marks (gone ∷ []) (length g.vertices) in
      ap (λ n. only_marked h (staying_marks (gone ∷ []) n)) (length_placed f gone g.vertices)
      ∙ ap (λ (vs : List EventVertex). record g { watch = map (watched_renumbered (rank marks)) g.watch; vertices = map (vertex_renumbered (rank marks)) vs })
      (marked_of-elsewhere f marks gone g.vertices (one-unmarked gone (length g.vertices)))
