-- The rounds end with one list of ranges: what one round leaves as it is, each later round leaves so.
use Rattle.std.proofs.Common.{◌≡◌, ◌⊎◌, inl, inr, ℕ, zero, suc, ◌+◌, ◌-◌, ◌<◌, ◌≤◌, ℤ, nat_le, int_lt, Bool, true, false, ◌&&◌, cond, List, length, refl, sym, ◌∙◌, ap, ap₂, subst, arith}
use Rattle.std.specs.List.{fold}
use Rattle.std.proofs.lemmas.Bool.Decides.{nat_tests}
use Rattle.std.proofs.lemmas.Int.{ints}
use Rattle.std.proofs.lemmas.List.{ext_get_or}
use Rattle.model_core.specs.EventGraph.{EventGraph}
use Rattle.model_core.specs.Run.State.{variable_at}
use Rattle.model_core.specs.declared.incoming.Incoming.{Incoming}
use Rattle.model_core.specs.declared.var_range.VarRange.{VarRange}
use Rattle.model_core.specs.Ranges.OtherRanges.{declared_range, no_range, range_at}
use Rattle.model_core.specs.Ranges.Incoming.{incoming}
use Rattle.model_core.specs.Ranges.Inductive.{is_fixed}
use Rattle.model_core.specs.Ranges.Inference.{grown_range, ends_moved, each_variable, next_range, round, after_rounds, IsInferred}
use Rattle.range_infer.proofs.OneRound.{variable_given, variables_given, stays_at}

-- an end that is where it was doesn't move
low_rests : (late : Bool) (d r : ℤ) → cond (late && int_lt r r) d r ≡ r
low_rests late d r = by late (int_lt r r) refl where
  by : (s t : Bool) → int_lt r r ≡ t → cond (s && t) d r ≡ r
  by true true lt = absurd (grind (arith, ints))
  by true false lt = refl
  by false t lt = refl

ends_moved-rests : (late : Bool) (d r n : VarRange) → n ≡ r → ends_moved late d r n ≡ r
ends_moved-rests late d r n same =
    subst (λ (n : VarRange). ends_moved late d r n ≡ r) (sym same) (ap₂ (λ (x y : ℤ). record { lo = x; hi = y }) (low_rests late d.lo r.lo) (low_rests late d.hi r.hi))

module _ (g : EventGraph) (ranges : List VarRange) (k : ℕ) (stays : round g k ranges ≡ ranges) where
  abbrev takes : List Incoming
  takes = incoming g ranges

  as_many : length ranges ≡ length g.variables
  as_many = sym (ap length stays) ∙ variables_given g (next_range g (nat_le 17 k) takes ranges)

  -- what an early round leaves as it is, a late one leaves so
  next_stays : (late : Bool) (v : ℕ) → next_range g false takes ranges v ≡ range_at ranges v → next_range g late takes ranges v ≡ range_at ranges v
  next_stays late v = by (is_fixed g v) where
    r : VarRange
    r = range_at ranges v

    n : VarRange
    n = fold (grown_range g v) r takes

    by : (b : Bool) → cond b r (ends_moved false (declared_range (variable_at g v)) r n) ≡ r → cond b r (ends_moved late (declared_range (variable_at g v)) r n) ≡ r
    by true same = refl
    by false same = ends_moved-rests late (declared_range (variable_at g v)) r n same

  pub stays-on : (j : ℕ) → k ≤ j → round g j ranges ≡ ranges
  stays-on j later = by (nat_le 17 k) refl where
    by : (late : Bool) → nat_le 17 k ≡ late → round g j ranges ≡ ranges
    by true is =
        let still : nat_le 17 j ≡ nat_le 17 k = grind (arith, nat_tests) in
        ap (λ (late : Bool). each_variable g (next_range g late takes ranges)) still ∙ stays
    by false is =
        let next : ℕ → VarRange = next_range g (nat_le 17 j) takes ranges in
        let early : (v : ℕ) → v < length g.variables → next_range g false takes ranges v ≡ range_at ranges v =
        λ v small. ap (λ (late : Bool). next_range g late takes ranges v) (sym is) ∙ stays_at g ranges k stays v small in
        ext_get_or no_range (round g j ranges) ranges (variables_given g next ∙ sym as_many) (λ v small.
        let there : v < length g.variables = omega (arith, small, variables_given g next) in
        variable_given g next v there ∙ next_stays (nat_le 17 j) v (early v there))

module _ (g : EventGraph) where
  after_more : (k j : ℕ) → round g (suc k) (after_rounds g k) ≡ after_rounds g k → after_rounds g (j + k) ≡ after_rounds g k
  after_more k zero stays = ap (after_rounds g) (omega arith)
  after_more k (suc j) stays =
      let one : suc j + k ≡ suc (j + k) = omega arith in
      ap (after_rounds g) one ∙ (ap (round g (suc (j + k))) (after_more k j stays) ∙ stays-on g (after_rounds g k) (suc k) stays (suc (j + k)) (omega arith))

  of_less : (k j : ℕ) → k ≤ j → round g (suc k) (after_rounds g k) ≡ after_rounds g k → after_rounds g j ≡ after_rounds g k
  of_less k j le stays = ap (after_rounds g) (let sum : j ≡ (j - k) + k = omega arith in sum) ∙ after_more k (j - k) stays

  stays_there : (ranges : List VarRange) (i : IsInferred g ranges) → round g (suc i.rounds) (after_rounds g i.rounds) ≡ after_rounds g i.rounds
  stays_there ranges i = subst (λ (rs : List VarRange). round g (suc i.rounds) rs ≡ rs) (sym i.reached) i.stays

  less_or_not : (a b : ℕ) → (a ≤ b) ⊎ (b ≤ a)
  less_or_not zero b = inl (omega arith)
  less_or_not (suc a) zero = inr (omega arith)
  less_or_not (suc a) (suc b) = by (less_or_not a b) where
    by : (a ≤ b) ⊎ (b ≤ a) → (suc a ≤ suc b) ⊎ (suc b ≤ suc a)
    by (inl e) = inl (omega arith)
    by (inr e) = inr (omega arith)

  pub one_inference : (a b : List VarRange) → IsInferred g a → IsInferred g b → a ≡ b
  one_inference a b i j = by (less_or_not i.rounds j.rounds) where
    by : (i.rounds ≤ j.rounds) ⊎ (j.rounds ≤ i.rounds) → a ≡ b
    by (inl le) = sym i.reached ∙ (sym (of_less i.rounds j.rounds le (stays_there a i)) ∙ j.reached)
    by (inr le) = sym i.reached ∙ (of_less j.rounds i.rounds le (stays_there b j) ∙ j.reached)
