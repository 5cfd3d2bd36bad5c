-- The first variable that fails, as a pass over all that is taken finds it.
use Rattle.std.proofs.Common.{◌≡◌, ◌⊎◌, inl, inr, ℕ, ◌<◌, ◌≤◌, nat_lt, Bool, true, false, not, ◌&&◌, cond, List, [], ◌∷◌, length, refl, sym, ◌∙◌, ap, subst, arith}
use Rattle.std.specs.Prelude.{IfSome}
use Rattle.std.specs.List.{AllByRecursion, fold}
use Rattle.std.proofs.lemmas.Int.{ints}
use Rattle.std.proofs.lemmas.Bool.Decides.{nat_tests}
use Rattle.std.proofs.lemmas.List.{get_or_past}
use Rattle.model_core.specs.EventGraph.{EventGraph}
use Rattle.model_core.specs.Run.State.{no_variable, variable_at}
use Rattle.model_core.proofs.Among.{Among, of-among}
use Rattle.model_core.proofs.EachOne.{every-map}
use Rattle.model_core.specs.declared.incoming.Incoming.{Incoming}
use Rattle.model_core.specs.declared.var_range.VarRange.{VarRange}
use Rattle.model_core.specs.Ranges.OtherRanges.{LiesIn, declared_range, no_range, range_at}
use Rattle.model_core.specs.Ranges.Incoming.{incoming, kept_range}
use Rattle.model_core.specs.Ranges.Inductive.{Encloses, Fitting, HoldsIncoming, Suffices, Inductive}
use Rattle.range_infer.specs.RangeVerdicts.{FailsFirst}
use Rattle.range_infer.specs.Inner.RangeTests.{encloses_kept, first_after}
use Rattle.range_infer.proofs.FittingTests.{encloses_kept-holds, holds-encloses_kept}
use Rattle.range_infer.proofs.NarrowModels.{fits_everywhere}
use Rattle.range_infer.proofs.OneRound.{kept_range-inside}

module _ (g : EventGraph) (ranges : List VarRange) where
  -- what a variable keeps of one that it takes lies in its range, by the test
  abbrev pub test : Incoming → Bool
  test i = encloses_kept (range_at ranges i.variable) (kept_range (variable_at g i.variable) i.bounds)

  -- the variable takes one that fails the test
  pub record Outside (is : List Incoming) (v : ℕ) : Type 0 where
    pub taken : Incoming
    pub among : Among taken is
    pub variable : taken.variable ≡ v
    pub fails : test taken ≡ false

  pub record Found (start out : ℕ) (is : List Incoming) : Type 0 where
    pub few : out ≤ start
    pub before : AllByRecursion (λ (i : Incoming). i.variable < out → test i ≡ true) is
    pub fails : (out ≡ start) ⊎ Outside is out

  -- one more in front
  later : (start mid out : ℕ) (i : Incoming) (is : List Incoming) → mid ≤ start → (i.variable < mid → test i ≡ true) → (mid ≡ start) ⊎ Outside (i ∷ is) mid → Found mid out is → Found start out (i ∷ is)
  later start mid out i is few here fails found = record {
    few = omega (arith, found.few);
    before = (λ small. here (omega (arith, small, found.few)), found.before);
    fails = by found.fails;
  } where
    by : (out ≡ mid) ⊎ Outside is out → (out ≡ start) ⊎ Outside (i ∷ is) out
    by (inl same) = subst (λ (k : ℕ). (k ≡ start) ⊎ Outside (i ∷ is) k) (sym same) fails
    by (inr o) = inr (record { taken = o.taken; among = inr o.among; variable = o.variable; fails = o.fails })

  one : (start : ℕ) (i : Incoming) (is : List Incoming) (b t : Bool) → nat_lt i.variable start ≡ b → test i ≡ t → ((mid : ℕ) → Found mid (fold (first_after g ranges) mid is) is) → Found start (fold (first_after g ranges) (cond (b && not t) i.variable start) is) (i ∷ is)
  one start i is true false e f rest =
      let less : i.variable < start = grind (arith, nat_tests) in
      later start i.variable (fold (first_after g ranges) i.variable is) i is (omega (arith, less)) (λ small. absurd (omega (arith, small))) (inr (record { taken = i; among = inl refl; variable = refl; fails = f })) (rest i.variable)
  one start i is true true e f rest = later start start (fold (first_after g ranges) start is) i is (omega arith) (λ small. f) (inl refl) (rest start)
  one start i is false t e f rest =
      let more : start ≤ i.variable = grind (arith, nat_tests) in
      later start start (fold (first_after g ranges) start is) i is (omega arith) (λ small. absurd (omega (arith, small, more))) (inl refl) (rest start)

  pub found : (is : List Incoming) (start : ℕ) → Found start (fold (first_after g ranges) start is) is
  found [] start = record { few = omega arith; before = tt; fails = inl refl }
  found (i ∷ is) start = one start i is (nat_lt i.variable start) (test i) refl refl (λ mid. found is mid)

-- ---- what that shows

module _ (g : EventGraph) (ranges : List VarRange) (fitting : Fitting g ranges) (start : ℕ) (few : start ≤ length g.variables) (begins : (w : ℕ) → w < start → LiesIn (range_at ranges w) (variable_at g w).initial) (wrong : start < length g.variables → LiesIn (range_at ranges start) (variable_at g start).initial → ⊥) where
  abbrev out : ℕ
  out = fold (first_after g ranges) start (incoming g ranges)

  abbrev f : Found g ranges start out (incoming g ranges)
  f = found g ranges (incoming g ranges) start

  suffices : (w : ℕ) → w < out → Suffices g ranges w
  suffices w less = record {
    begins = begins w (omega (arith, less, f.few));
    takes = every-map (λ (i : Incoming). i.variable < out → test g ranges i ≡ true) (λ (i : Incoming). i.variable ≡ w → HoldsIncoming g ranges i) (λ i encloses same. encloses_kept-holds (range_at ranges i.variable) (kept_range (variable_at g i.variable) i.bounds) (encloses (omega (arith, same, less)))) (incoming g ranges) f.before;
  }

  fails_at : out < length g.variables → Suffices g ranges out → ⊥
  fails_at small s = by f.fails where
    by : (out ≡ start) ⊎ Outside g ranges (incoming g ranges) out → ⊥
    by (inl same) = wrong (subst (λ (k : ℕ). k < length g.variables) same small) (subst (λ (k : ℕ). LiesIn (range_at ranges k) (variable_at g k).initial) same s.begins)
    by (inr o) =
        let held = of-among (λ (i : Incoming). i.variable ≡ out → HoldsIncoming g ranges i) (incoming g ranges) o.taken s.takes o.among o.variable in
        let encloses = holds-encloses_kept (range_at ranges o.taken.variable) (kept_range (variable_at g o.taken.variable) o.taken.bounds) held in
        let no = o.fails in cc

  pub first_fails : out < length g.variables → FailsFirst g ranges out
  first_fails small = record { fitting = fitting; variable = small; fails = fails_at small; first = suffices }

  -- what no variable takes is kept nowhere
  past_holds : (i : Incoming) → length g.variables ≤ i.variable → HoldsIncoming g ranges i
  past_holds i past =
      let fit = fits_everywhere g ranges fitting i.variable in
      let as_declared : range_at ranges i.variable ≡ declared_range (variable_at g i.variable) = get_or_past ranges i.variable no_range (omega (arith, fitting.as_many, past)) ∙ sym (ap declared_range (get_or_past g.variables i.variable no_variable past)) in
      subst (λ (r : VarRange). IfSome (kept_range (variable_at g i.variable) i.bounds) (Encloses r)) (sym as_declared) (kept_range-inside (variable_at g i.variable) i.bounds (omega (arith, ints, fit.ordered, fit.inside.low, fit.inside.high)))

  holds_each : length g.variables ≤ out → (i : Incoming) → (i.variable < out → test g ranges i ≡ true) → HoldsIncoming g ranges i
  holds_each all i encloses = by (nat_lt i.variable (length g.variables)) refl where
    by : (b : Bool) → nat_lt i.variable (length g.variables) ≡ b → HoldsIncoming g ranges i
    by true e =
        let less : i.variable < length g.variables = grind (arith, nat_tests) in
        encloses_kept-holds (range_at ranges i.variable) (kept_range (variable_at g i.variable) i.bounds) (encloses (omega (arith, less, all)))
    by false e = past_holds i (grind (arith, nat_tests))

  pub none_fails : length g.variables ≤ out → Fitting g ranges × Inductive g ranges
  none_fails all = (
    fitting,
    record {
      begins = λ v small. begins v (omega (arith, small, all, f.few));
      takes = every-map (λ (i : Incoming). i.variable < out → test g ranges i ≡ true) (HoldsIncoming g ranges) (holds_each all) (incoming g ranges) f.before;
    },
  )

-- ---- the same, where there are n variables

module _ (g : EventGraph) (ranges : List VarRange) (fitting : Fitting g ranges) (n : ℕ) (count : n ≡ length g.variables) (start : ℕ) (few : start ≤ n) (begins : (w : ℕ) → w < start → LiesIn (range_at ranges w) (variable_at g w).initial) (wrong : start < n → LiesIn (range_at ranges start) (variable_at g start).initial → ⊥) (takes : List Incoming) (all : takes ≡ incoming g ranges) (result : ℕ) (is : result ≡ fold (first_after g ranges) start takes) where
  is_first : result ≡ fold (first_after g ranges) start (incoming g ranges)
  is_first = is ∙ ap (fold (first_after g ranges) start) all

  few_too : start ≤ length g.variables
  few_too = omega (arith, few, count)

  wrong_too : start < length g.variables → LiesIn (range_at ranges start) (variable_at g start).initial → ⊥
  wrong_too small = wrong (omega (arith, small, count))

  pub result_fails : result < n → FailsFirst g ranges result
  result_fails small =
      subst (FailsFirst g ranges) (sym is_first)
      (first_fails g ranges fitting start few_too begins wrong_too (subst (λ (k : ℕ). k < length g.variables) is_first (omega (arith, small, count))))

  pub all_suffice : n ≤ result → Fitting g ranges × Inductive g ranges
  all_suffice all_there = none_fails g ranges fitting start few_too begins wrong_too (subst (λ (k : ℕ). length g.variables ≤ k) is_first (omega (arith, all_there, count)))
