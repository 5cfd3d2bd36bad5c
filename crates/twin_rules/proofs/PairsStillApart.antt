-- What was asked of pairs of vertices still holds when two vertices are fused, but for those that change.
use Rattle.std.proofs.Common.{◌≡◌, ◌⊎◌, inl, inr, ℕ, ◌+◌, ◌-◌, ◌<◌, ◌≤◌, ◌==◌, nat_lt, nat_eq, Bool, true, false, not, ◌&&◌, ◌||◌, cond, [], ◌∷◌, map, take, length, refl, sym, ◌∙◌, ap, ap₂, subst, arith}
use Rattle.std.proofs.lemmas.Bool.Decides.{nat_tests}
use Rattle.std.proofs.lemmas.Bool.{false≢true, lt-ltb}
use Rattle.std.specs.Prelude.{is_none}
use Rattle.sig_base.proofs.Tests.{none-is_none, nat_lt-zero}
use lib.Pointwise.{pointwise, bytes_decides}
use Rattle.model_core.specs.EventGraph.{EventGraph}
use Rattle.model_core.specs.Run.Step.{vertex_at}
use Rattle.model_core.specs.Rules.Conditions.{first_failed}
use Rattle.model_core.specs.Rules.Drop.{edge_renumbered}
use Rattle.model_core.specs.Rules.Merge.{is_watched_vertex, leads_to}
use Rattle.model_core.specs.Rules.MarkedPlaces.{place_without}
use Rattle.model_core.specs.Rules.Fuse.{standing_for, fused, can_be_cancelled, same_changes, same_edges_for, fuse_conditions}
use Rattle.model_core.proofs.BothTrue.{and_first, and_second}
use Rattle.model_core.proofs.Among.{either_true, first_true, second_true}
use Rattle.model_core.proofs.EachOne.{every-fails, either_false}
use Rattle.bound_laws.proofs.Soundness.NumberRows.{not_true}
use Rattle.twin_rules.specs.declared.pair_search.PairSearch.{PairSearch}
use Rattle.twin_rules.specs.Inner.ComparedPairs.{are_alike, is_before_pair, has_changed, NoneAlike, place_before, some_leads}
use Rattle.twin_rules.proofs.AlikeVertices.{AreAlike, conditions-alike, changes_decided, edges_decided}
use Rattle.twin_rules.proofs.StillApart.{NoneLeads, alike-before}

-- ---- the conditions, as a test and as a record

pub alike-are_alike : (g : EventGraph) (x y : ℕ) → AreAlike g x y → are_alike g x y ≡ true
alike-are_alike g x y are =
    let a = vertex_at g x in
    let b = vertex_at g y in
    let exist : (nat_lt x y && nat_lt y (length g.vertices)) ≡ true = ap₂ (λ p q. p && q) (lt-ltb x y are.first) (lt-ltb y (length g.vertices) are.within) in
    let unwatched : (not (is_watched_vertex g x) && not (is_watched_vertex g y)) ≡ true = ap₂ (λ p q. not p && not q) are.keep_unwatched are.gone_unwatched in
    let uncancelled : (not (can_be_cancelled g x) && not (can_be_cancelled g y)) ≡ true = ap₂ (λ p q. not p && not q) are.keep_uncancelled are.gone_uncancelled in
    let same : (pointwise nat_eq a.parameters b.parameters && same_changes a.changes b.changes) ≡ true = ap₂ (λ p q. p && q) ((bytes_decides a.parameters b.parameters).1 are.parameters) ((changes_decided a.changes b.changes).1 are.changes) in
    let edges : same_edges_for x y a.edges b.edges ≡ true = (edges_decided (map (edge_renumbered (standing_for x y)) a.edges) (map (edge_renumbered (standing_for x y)) b.edges)).1 are.edges in
    λ i. is_none (first_failed (exist i ∷ unwatched i ∷ uncancelled i ∷ same i ∷ edges i ∷ []))

pub are_alike-alike : (g : EventGraph) (x y : ℕ) → are_alike g x y ≡ true → AreAlike g x y
are_alike-alike g x y tested = conditions-alike g x y (none-is_none (first_failed (take 5 (fuse_conditions g x y))) tested)

-- ---- places before and after

data Before (gone x : ℕ) : Type 0 where
  front : x < gone → place_before gone x ≡ x → Before gone x
  back : gone ≤ x → place_before gone x ≡ x + 1 → Before gone x

where_before : (gone x : ℕ) → Before gone x
where_before gone x = by (nat_lt x gone) refl where
  by : (b : Bool) → nat_lt x gone ≡ b → Before gone x
  by true is = front (grind (arith, nat_tests)) (ap (λ b. cond b x (x + 1)) is)
  by false is = back (grind (arith, nat_tests)) (ap (λ b. cond b x (x + 1)) is)

data After (gone k : ℕ) : Type 0 where
  stays : k ≤ gone → place_without gone k ≡ k → After gone k
  moves : gone < k → place_without gone k ≡ k - 1 → After gone k

where_after : (gone k : ℕ) → After gone k
where_after gone k = by (nat_lt gone k) refl where
  by : (b : Bool) → nat_lt gone k ≡ b → After gone k
  by true is = moves (grind (arith, nat_tests)) (ap (λ b. cond b (k - 1) k) is)
  by false is = stays (grind (arith, nat_tests)) (ap (λ b. cond b (k - 1) k) is)

pub stays-apart : (gone x : ℕ) → (place_before gone x == gone) ≡ false
stays-apart gone x = by (where_before gone x) where
  by : Before gone x → (place_before gone x == gone) ≡ false
  by (front less is) = ap (λ k. k == gone) is ∙ (let e : (x == gone) ≡ false = grind (arith, nat_tests) in e)
  by (back more is) = ap (λ k. k == gone) is ∙ (let e : ((x + 1) == gone) ≡ false = grind (arith, nat_tests) in e)

pub and-back : (gone x : ℕ) → place_without gone (place_before gone x) ≡ x
and-back gone x = by (where_before gone x) where
  by : Before gone x → place_without gone (place_before gone x) ≡ x
  by (front less is) = ap (place_without gone) is ∙ ap (λ b. cond b (x - 1) x) (let e : nat_lt gone x ≡ false = grind (arith, nat_tests) in e)
  by (back more is) = ap (place_without gone) is ∙ (ap (λ b. cond b (x + 1 - 1) (x + 1)) (let e : nat_lt gone (x + 1) ≡ true = grind (arith, nat_tests) in e) ∙ (let e : x + 1 - 1 ≡ x = omega arith in e))

less-before : (gone x k : ℕ) → nat_lt x (place_without gone k) ≡ true → nat_lt (place_before gone x) k ≡ true
less-before gone x k e = by (where_before gone x) (where_after gone k) where
  by : Before gone x → After gone k → nat_lt (place_before gone x) k ≡ true
  by (front a is) (stays b same) = grind (arith, nat_tests)
  by (front a is) (moves b same) = grind (arith, nat_tests)
  by (back a is) (stays b same) = grind (arith, nat_tests)
  by (back a is) (moves b same) = grind (arith, nat_tests)

same-before : (gone x k : ℕ) → (k == gone) ≡ false → (x == place_without gone k) ≡ true → (place_before gone x == k) ≡ true
same-before gone x k apart e = by (where_before gone x) (where_after gone k) where
  by : Before gone x → After gone k → (place_before gone x == k) ≡ true
  by (front a is) (stays b same) = grind (arith, nat_tests)
  by (front a is) (moves b same) = grind (arith, nat_tests)
  by (back a is) (stays b same) = grind (arith, nat_tests)
  by (back a is) (moves b same) = grind (arith, nat_tests)

-- a pair that comes before where the bound moves came before the bound
pub came_before : (gone keep last x y : ℕ) → is_before_pair (place_without gone keep) (cond (keep == gone) 0 (place_without gone last)) x y ≡ true → is_before_pair keep last (place_before gone x) (place_before gone y) ≡ true
came_before gone keep last x y tested = either (either_true (nat_lt x (place_without gone keep)) _ tested) where
  within : (b : Bool) → (keep == gone) ≡ b → (x == place_without gone keep) ≡ true → nat_lt y (cond b 0 (place_without gone last)) ≡ true → ((place_before gone x == keep) && nat_lt (place_before gone y) last) ≡ true
  within true is same less = absurd (false≢true (sym (nat_lt-zero y) ∙ less))
  within false is same less = ap₂ (λ p q. p && q) (same-before gone x keep is same) (less-before gone y last less)

  either : (nat_lt x (place_without gone keep) ≡ true) ⊎ (((x == place_without gone keep) && nat_lt y (cond (keep == gone) 0 (place_without gone last))) ≡ true) → is_before_pair keep last (place_before gone x) (place_before gone y) ≡ true
  either (inl less) = first_true (nat_lt (place_before gone x) keep) _ (less-before gone x keep less)
  either (inr both) = second_true (nat_lt (place_before gone x) keep) _ (within (keep == gone) refl (and_first (x == place_without gone keep) _ both) (and_second (x == place_without gone keep) _ both))

-- ---- what was asked

module _ (g : EventGraph) (keep gone : ℕ) (are : AreAlike g keep gone) (a b : PairSearch) (is_keep : b.keep ≡ place_without gone a.keep) (is_gone : b.gone ≡ cond (a.keep == gone) 0 (place_without gone a.gone)) (is_changed : (k : ℕ) → has_changed b.changed k ≡ (has_changed a.changed (place_before gone k) || some_leads g (place_before gone k) gone)) where
  abbrev before : ℕ → ℕ
  before = place_before gone

  -- a vertex that hasn't changed had not, and leads nowhere that is gone
  record Unchanged (x : ℕ) : Type 0 where
    had_not : not (has_changed a.changed (before x)) ≡ true
    leads : NoneLeads gone (vertex_at g (before x)).edges

  unchanged : (x : ℕ) → not (has_changed b.changed x) ≡ true → Unchanged x
  unchanged x tested =
      let (had_not, none) = either_false (has_changed a.changed (before x)) (some_leads g (before x) gone) (sym (is_changed x) ∙ not_true _ tested) in
      record { had_not = ap not had_not; leads = every-fails (leads_to gone) (vertex_at g (before x)).edges none }

  pub still-asked : NoneAlike g a → NoneAlike (fused g keep gone) b
  still-asked none x y asked =
      let front = and_first (is_before_pair b.keep b.gone x y && not (has_changed b.changed x)) _ asked in
      let was_before : is_before_pair a.keep a.gone (before x) (before y) ≡ true = came_before gone a.keep a.gone x y (ap₂ (λ k j. is_before_pair k j x y) (sym is_keep) (sym is_gone) ∙ and_first (is_before_pair b.keep b.gone x y) _ front) in
      let ux = unchanged x (and_second (is_before_pair b.keep b.gone x y) _ front) in
      let uy = unchanged y (and_second (is_before_pair b.keep b.gone x y && not (has_changed b.changed x)) _ asked) in
      let not_alike : are_alike g (before x) (before y) ≡ false = none (before x) (before y) (λ i. was_before i && ux.had_not i && uy.had_not i) in
      by (are_alike (fused g keep gone) x y) refl ux uy not_alike where
        by : (t : Bool) → are_alike (fused g keep gone) x y ≡ t → Unchanged x → Unchanged y → are_alike g (before x) (before y) ≡ false → t ≡ false
        by false is ux uy not_alike = refl
        by true is ux uy not_alike =
            let now = are_alike-alike (fused g keep gone) x y is in
            let moved : AreAlike (fused g keep gone) (place_without gone (before x)) (place_without gone (before y)) = subst (λ (p : ℕ × ℕ). AreAlike (fused g keep gone) p.0 p.1) (λ i. (sym (and-back gone x) i, sym (and-back gone y) i)) now in
            let was = alike-before g keep gone are (before x) (before y) (stays-apart gone x) (stays-apart gone y) ux.leads uy.leads moved in
            sym (alike-are_alike g (before x) (before y) was) ∙ not_alike
