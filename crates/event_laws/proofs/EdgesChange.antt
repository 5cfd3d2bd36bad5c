-- Edges whose trees may change places may do so at each moment.
use Rattle.std.proofs.Common.{◌≡◌, ℕ, zero, suc, ℤ, pos, negsuc, ◌≤ℤ◌, ◌<ℤ◌, int_lt, Bool, true, false, not, cond, ◌&&◌, ◌||◌, eqb, List, [], ◌∷◌, map, IsTrue, Option, Some, ◌⊎◌, inl, inr, refl, sym, ap, ◌∙◌, subst, arith}
use Rattle.std.proofs.lemmas.Bool.Decides.{nat_tests}
use Rattle.std.proofs.lemmas.Int.{ints, clamps}
use Rattle.std.specs.List.{AllByRecursion}
use Rattle.std.specs.Ordering.{int_eq}
use Rattle.std.specs.Int.{int_max}
use Rattle.model_core.specs.Run.Value.{is_one}
use Rattle.tree_laws.specs.SumValues.{Valuation}
use Rattle.tree_laws.specs.Limits.{◌>>=◌, Interval}
use Rattle.tree_laws.specs.SumEnds.{Ground, Known}
use Rattle.tree_laws.specs.Meaning.{Meets, Holds, Within}
use Rattle.tree_laws.specs.Trees.{CaseTree, tree_value}
use Rattle.tree_laws.specs.TreesJoined.{choose}
use Rattle.tree_laws.specs.TreeConditions.{number_tree, is_zero_tree, learned, tree_ends}
use Rattle.tree_laws.proofs.Gives.{Gives, gives_some, then_gives, gives_weaker, gives_cond}
use Rattle.tree_laws.proofs.SameSums.{true-int_eq}
use Rattle.tree_laws.proofs.JoinedTrees.{Chosen, gives_if, one_not_none, choose-value}
use Rattle.tree_laws.proofs.ConditionTrees.{constant-value, is_zero-value, learned-value, tree_ends-holds}
use Rattle.pair_laws.specs.EdgesNow.{FormNow, Schedules, TakesNext, TakesEqual, TakesAll, EdgeNow, effect_at, may_change_as, may_change_now}
use Rattle.pair_laws.specs.Exchanges.{EdgeEffect, may_change_places}
use Rattle.pair_laws.proofs.EdgesOfNow.{now-may_change}
use Rattle.event_laws.specs.EdgesMade.{EdgeTrees, ticks_of, edge_now}
use Rattle.event_laws.specs.EdgesTidied.{ends_apart, never_both, delay_ends, delays_apart, may_change_by, trees_may_change, all_may_change}

-- only 1 is a true condition
pub one-is : (x : ℤ) → is_one x ≡ true → x ≡ pos 1
one-is x e = true-int_eq x (pos 1) e

true-int_lt : (a b : ℤ) → int_lt a b ≡ true → a <ℤ b
true-int_lt a b e = grind (arith, ints)

-- a number above another one and above 0 is another number of ticks
above : (hi lo x y : ℤ) → int_max (pos 0) hi <ℤ lo → x ≤ℤ hi → lo ≤ℤ y → (pos 0 <ℤ y) × (x <ℤ y)
above hi lo x y less high low = (omega (arith, ints, clamps, less, high, low), omega (arith, ints, clamps, less, high, low))

other-ticks : (x y : ℤ) → (pos 0 <ℤ y) × (x <ℤ y) → not (eqb (ticks_of x) (ticks_of y)) ≡ true
other-ticks (pos n) (pos m) (positive, less) = grind (arith, ints, nat_tests, less)
other-ticks (negsuc n) (pos zero) (positive, less) = absurd (omega (arith, ints, positive))
other-ticks (negsuc n) (pos (suc m)) (positive, less) = grind (arith, nat_tests)
other-ticks x (negsuc m) (positive, less) = absurd (omega (arith, ints, positive))

swapped : (n m : ℕ) → not (eqb m n) ≡ true → not (eqb n m) ≡ true
swapped n m h = grind (arith, nat_tests, h)

-- delays between ends that are apart are other numbers of ticks
ticks-apart : (e f : Interval) (x y : ℤ) → ends_apart e f ≡ true → Within e x → Within f y → not (eqb (ticks_of x) (ticks_of y)) ≡ true
ticks-apart e f x y apart in_e in_f = by (int_lt (int_max (pos 0) e.hi) f.lo) refl (int_lt (int_max (pos 0) f.hi) e.lo) refl apart where
  by : (c : Bool) → int_lt (int_max (pos 0) e.hi) f.lo ≡ c → (d : Bool) → int_lt (int_max (pos 0) f.hi) e.lo ≡ d → (c || d) ≡ true → not (eqb (ticks_of x) (ticks_of y)) ≡ true
  by true less d other h = other-ticks x y (above e.hi f.lo x y (true-int_lt _ _ less) in_e.high in_f.low)
  by false other true less h = swapped (ticks_of x) (ticks_of y) (other-ticks y x (above f.hi e.lo y x (true-int_lt _ _ less) in_f.high in_e.low))
  by false other false less h = cc

module _ (v : Valuation) (base : Ground) (meets : Meets base v) (k : Known) (h : Holds v k) where
  -- an edge at this moment
  abbrev pub now : EdgeTrees → EdgeNow
  now e = edge_now v e

  zero-apart : (a b c : ℤ) → Chosen a b (pos 0) c → c ≡ pos 0 → (is_one a && is_one b) ≡ false
  zero-apart a b c chosen is = elim chosen.truth [
    | inl one ↦ ap (λ x. is_one x && is_one b) one ∙ ap is_one (sym (chosen.one one) ∙ is)
    | inr none ↦ ap (λ x. is_one x && is_one b) none
  ]

  pub never_both-apart : (a b : EdgeTrees) → Gives (never_both base k a b) (λ n. n ≡ true → ((now a).holds && (now b).holds) ≡ false)
  never_both-apart a b =
      then_gives (λ t. Chosen (tree_value v a.condition) (tree_value v b.condition) (tree_value v (number_tree (pos 0))) (tree_value v t)) _ (choose base k a.condition b.condition (number_tree (pos 0))) _
      (choose-value v base meets k h a.condition b.condition (number_tree (pos 0)))
      (λ t chosen. gives_some _ _ (λ zero. zero-apart _ _ _ (subst (λ z. Chosen (tree_value v a.condition) (tree_value v b.condition) z (tree_value v t)) (constant-value v base meets (pos 0)) chosen) (is_zero-value v base meets t zero)))

  delay_ends-hold : (e : EdgeTrees) → Gives (delay_ends base k e) (λ i. (now e).holds ≡ true → Within i (tree_value v e.delay))
  delay_ends-hold e =
      then_gives (λ l. (now e).holds ≡ true → Holds v l) (λ i. (now e).holds ≡ true → Within i (tree_value v e.delay)) (learned base k e.condition) _
      (gives_if (Holds v) _ (λ holds. learned-value v base meets e.condition k h (one_not_none _ (one-is _ holds))))
      (λ l holds. gives_if (λ i. Within i (tree_value v e.delay)) _ (λ held. tree_ends-holds v base meets e.delay l (holds held)))

  delays_apart-ticks : (a b : EdgeTrees) → Gives (delays_apart base k a b) (λ m. m ≡ true → (now a).holds ≡ true → (now b).holds ≡ true → not (eqb (now a).delay (now b).delay) ≡ true)
  delays_apart-ticks a b =
      let Q : Bool → Type 0 = λ m. m ≡ true → (now a).holds ≡ true → (now b).holds ≡ true → not (eqb (now a).delay (now b).delay) ≡ true in
      then_gives (λ i. (now a).holds ≡ true → Within i (tree_value v a.delay)) Q (delay_ends base k a) _ (delay_ends-hold a)
      (λ e in_e. then_gives (λ i. (now b).holds ≡ true → Within i (tree_value v b.delay)) Q (delay_ends base k b) _ (delay_ends-hold b)
      (λ f in_f. gives_some Q _ (λ apart a_holds b_holds. ticks-apart e f _ _ apart (in_e a_holds) (in_f b_holds))))

  -- by forms, where both conditions are true
  abbrev pub MayByForms : EdgeTrees → EdgeTrees → FormNow → FormNow → Bool → Type 0
  MayByForms a b f g m = m ≡ true → (now a).holds ≡ true → (now b).holds ≡ true → may_change_as (now a) (now b) f g ≡ true

  by_forms : (a b : EdgeTrees) (f g : FormNow) → Gives (may_change_by base k a b f g) (MayByForms a b f g)
  by_forms a b (Schedules p) (Schedules q) =
      gives_cond (MayByForms a b (Schedules p) (Schedules q)) (eqb p q) _ _
      (λ same. gives_weaker (MayByForms a b (Schedules p) (Schedules q)) _ (delays_apart-ticks a b) (λ m ticks e ah bh. ap (λ x. not x || not (eqb (now a).delay (now b).delay)) same ∙ ticks e ah bh))
      (λ other. gives_some _ _ (λ e ah bh. ap (λ x. not x || not (eqb (now a).delay (now b).delay)) other))
  by_forms a b (Schedules p) TakesNext = gives_some _ _ (λ e ah bh. e)
  by_forms a b (Schedules p) TakesEqual = gives_some _ _ (λ e ah bh. e)
  by_forms a b (Schedules p) TakesAll = gives_some _ _ (λ e ah bh. e)
  by_forms a b TakesNext (Schedules q) = gives_some _ _ (λ e ah bh. e)
  by_forms a b TakesNext TakesNext = gives_some _ _ (λ e ah bh. refl)
  by_forms a b TakesNext TakesEqual = gives_some _ _ (λ e ah bh. e)
  by_forms a b TakesNext TakesAll = gives_some _ _ (λ e ah bh. refl)
  by_forms a b TakesEqual (Schedules q) = gives_some _ _ (λ e ah bh. e)
  by_forms a b TakesEqual TakesNext = gives_some _ _ (λ e ah bh. e)
  by_forms a b TakesEqual TakesEqual = gives_some _ _ (λ e ah bh. refl)
  by_forms a b TakesEqual TakesAll = gives_some _ _ (λ e ah bh. refl)
  by_forms a b TakesAll (Schedules q) = gives_some _ _ (λ e ah bh. e)
  by_forms a b TakesAll TakesNext = gives_some _ _ (λ e ah bh. refl)
  by_forms a b TakesAll TakesEqual = gives_some _ _ (λ e ah bh. refl)
  by_forms a b TakesAll TakesAll = gives_some _ _ (λ e ah bh. refl)

  not_both : (a b c : Bool) → (a ≡ true → b ≡ true → c ≡ true) → (not (a && b) || c) ≡ true
  not_both true true c both = both refl refl
  not_both true false c both = refl
  not_both false b c both = refl

  -- two edges may change places
  abbrev pub MayChange : ℕ → EdgeTrees → EdgeTrees → Bool → Type 0
  MayChange clk a b m = m ≡ true → IsTrue (may_change_places (effect_at clk (now a)) (effect_at clk (now b)))

  pub trees_may_change-now : (clk : ℕ) (a b : EdgeTrees) → Gives (trees_may_change base k a b) (MayChange clk a b)
  trees_may_change-now clk a b =
      then_gives (MayByForms a b a.form b.form) (MayChange clk a b) (may_change_by base k a b a.form b.form) _ (by_forms a b a.form b.form)
      (λ may by. gives_cond (MayChange clk a b) may _ _
      (λ e. gives_some _ _ (λ t. now-may_change clk (now a) (now b) (not_both _ _ _ (by e))))
      (λ e. gives_weaker (MayChange clk a b) _ (never_both-apart a b) (λ n apart t. now-may_change clk (now a) (now b) (ap (λ x. not x || may_change_as (now a) (now b) a.form b.form) (apart t)))))

  -- all of these may change places with the edge behind them
  abbrev pub AllMayChange : ℕ → List EdgeTrees → EdgeTrees → Type 0
  AllMayChange clk as_ b = AllByRecursion (λ f. IsTrue (may_change_places f (effect_at clk (now b)))) (map (λ t. effect_at clk (now t)) as_)

  pub all_may_change-now : (clk : ℕ) (as_ : List EdgeTrees) (b : EdgeTrees) → Gives (all_may_change base k as_ b) (λ m. m ≡ true → AllMayChange clk as_ b)
  unfolding all_may_change
  all_may_change-now clk [] b = gives_some _ _ (λ e. tt)
  all_may_change-now clk (a ∷ as_) b =
      let Q : Bool → Type 0 = λ m. m ≡ true → AllMayChange clk (a ∷ as_) b in
      then_gives (MayChange clk a b) Q (trees_may_change base k a b) _ (trees_may_change-now clk a b)
      (λ may changes. gives_cond Q may _ _
      (λ e. gives_weaker Q _ (all_may_change-now clk as_ b) (λ m others t. (changes e, others t)))
      (λ e. gives_some Q false (λ t. cc)))
