-- A variable keeps of a value the same under a narrower range that holds what it keeps.
use Rattle.std.proofs.Common.{◌≡◌, ℤ, ◌≤ℤ◌, ◌<ℤ◌, int_le, int_lt, Bool, true, false, ◌&&◌, cond, Some, None, Ok, Err, refl, sym, ◌∙◌, ap, ap₂, subst, arith}
use Rattle.std.specs.Prelude.{IfSome}
use Rattle.std.specs.Int.{int_min, int_max}
use Rattle.std.proofs.lemmas.Int.{ints, clamps}
use Rattle.sig_base.specs.declared.fault.FaultKind.TheVariants as faults
use Rattle.sig_base.proofs.Tests.{true-int_le}
use Rattle.model_core.specs.declared.bounds.Bounds.{Bounds}
use Rattle.model_core.specs.EventGraph.{Variable}
use Rattle.model_core.specs.Run.State.{within}
use Rattle.model_core.specs.Run.Value.{OrFault}
use Rattle.model_core.specs.Run.Changes.{kept}
use Rattle.model_core.specs.Rules.BoundsHold.{NumberIn}
use Rattle.bound_laws.proofs.Soundness.Ends.{lt_of, of_not_lt, of_not_le}
use Rattle.model_core.specs.declared.var_range.VarRange.{VarRange}
use Rattle.model_core.specs.Ranges.OtherRanges.{LiesIn, declared_range, with_range}
use Rattle.model_core.specs.Ranges.Incoming.{nearest_declared, overlap, kept_range}
use Rattle.model_core.specs.Ranges.Inductive.{Encloses}

-- on which side of a range a number lies, with the tests that show it
data SideOfRange (lo hi x : ℤ) : Type 0 where
  inside : lo ≤ℤ x → x ≤ℤ hi → within lo hi x ≡ true → SideOfRange lo hi x
  under : x <ℤ lo → within lo hi x ≡ false → int_lt x lo ≡ true → SideOfRange lo hi x
  over : lo ≤ℤ x → hi <ℤ x → within lo hi x ≡ false → int_lt x lo ≡ false → SideOfRange lo hi x

side_of_range : (lo hi x : ℤ) → SideOfRange lo hi x
side_of_range lo hi x = by (int_lt x lo) (int_le lo x) (int_le x hi) refl refl refl where
  by : (a b c : Bool) → int_lt x lo ≡ a → int_le lo x ≡ b → int_le x hi ≡ c → SideOfRange lo hi x
  by true b c e f i = under (lt_of x lo e) (let no : int_le lo x ≡ false = grind (arith, ints) in ap (λ (t : Bool). t && int_le x hi) no) e
  by false false c e f i = absurd (omega (arith, ints, of_not_lt x lo e, of_not_le lo x f))
  by false true true e f i = inside (of_not_lt x lo e) (true-int_le x hi i) (ap₂ (λ (s t : Bool). s && t) f i)
  by false true false e f i = over (of_not_lt x lo e) (of_not_le x hi i) (ap₂ (λ (s t : Bool). s && t) f i) e

-- what a variable keeps of a value lies in a range
pub record KeptLies (v : Variable) (r : VarRange) (x : ℤ) : Type 0 where
  pub lies : (y : ℤ) → kept v x ≡ Ok y → LiesIn r y

abbrev or_fault : Bool → ℤ → OrFault ℤ
or_fault clip y = cond clip (Ok y) (Err faults.RangeOutside)

kept_inside : (v : Variable) (x : ℤ) → within v.lo v.hi x ≡ true → kept v x ≡ Ok x
kept_inside v x e = ap (λ (b : Bool). cond b (Ok x) (or_fault v.clip (cond (int_lt x v.lo) v.lo v.hi))) e

kept_under : (v : Variable) (x : ℤ) → within v.lo v.hi x ≡ false → int_lt x v.lo ≡ true → kept v x ≡ or_fault v.clip v.lo
kept_under v x e f = ap₂ (λ (b c : Bool). cond b (Ok x) (or_fault v.clip (cond c v.lo v.hi))) e f

kept_over : (v : Variable) (x : ℤ) → within v.lo v.hi x ≡ false → int_lt x v.lo ≡ false → kept v x ≡ or_fault v.clip v.hi
kept_over v x e f = ap₂ (λ (b c : Bool). cond b (Ok x) (or_fault v.clip (cond c v.lo v.hi))) e f

-- the same end, where a variable that clips keeps it
same_end : (clip : Bool) (a b : ℤ) → (clip ≡ true → a ≡ b) → or_fault clip a ≡ or_fault clip b
same_end true a b same = ap (λ (y : ℤ). Ok y) (same refl)
same_end false a b same = refl

clips_to : (clip : Bool) (r : OrFault ℤ) (y : ℤ) → r ≡ or_fault clip y → clip ≡ true → r ≡ Ok y
clips_to clip r y e is = e ∙ ap (λ (c : Bool). or_fault c y) is

module _ (v : Variable) (r : VarRange) (ordered : r.lo ≤ℤ r.hi) (holds : Encloses (declared_range v) r) (x : ℤ) where
  abbrev w : Variable
  w = with_range v r

  pub same_kept : KeptLies v r x → kept v x ≡ kept w x
  same_kept k = by (side_of_range v.lo v.hi x) (side_of_range r.lo r.hi x) where
    by : SideOfRange v.lo v.hi x → SideOfRange r.lo r.hi x → kept v x ≡ kept w x
    by (inside a b e) (inside c d f) = kept_inside v x e ∙ sym (kept_inside w x f)
    by (inside a b e) (under c f i) =
        let l = k.lies x (kept_inside v x e) in absurd (omega (arith, ints, l.low))
    by (inside a b e) (over c d f i) =
        let l = k.lies x (kept_inside v x e) in absurd (omega (arith, ints, l.high))
    by (under a e i) (inside c d f) = absurd (omega (arith, ints, holds.low))
    by (under a e i) (under c f j) =
        kept_under v x e i ∙ (same_end v.clip v.lo r.lo (λ clip. let l = k.lies v.lo (clips_to v.clip (kept v x) v.lo (kept_under v x e i) clip) in omega (arith, ints, l.low, holds.low)) ∙ sym (kept_under w x f j))
    by (under a e i) (over c d f j) = absurd (omega (arith, ints, holds.low))
    by (over a b e i) (inside c d f) = absurd (omega (arith, ints, holds.high))
    by (over a b e i) (under c f j) = absurd (omega (arith, ints, holds.high))
    by (over a b e i) (over c d f j) =
        kept_over v x e i ∙ (same_end v.clip v.hi r.hi (λ clip. let l = k.lies v.hi (clips_to v.clip (kept v x) v.hi (kept_over v x e i) clip) in omega (arith, ints, l.high, holds.high)) ∙ sym (kept_over w x f j))

-- ---- what is kept of a value in bounds

-- what two ranges have in common lies in a range, and a number lies in both
met : (a b r : VarRange) (x : ℤ) → LiesIn a x → LiesIn b x → IfSome (overlap a b) (Encloses r) → LiesIn r x
met a b r x i j h = by (int_le (int_max a.lo b.lo) (int_min a.hi b.hi)) refl h where
  by : (t : Bool) → int_le (int_max a.lo b.lo) (int_min a.hi b.hi) ≡ t → IfSome (cond t (Some (record { lo = int_max a.lo b.lo; hi = int_min a.hi b.hi })) None) (Encloses r) → LiesIn r x
  by true e h = record { low = omega (arith, ints, clamps, h.low, i.low, j.low); high = omega (arith, ints, clamps, h.high, i.high, j.high) }
  by false e h = absurd (omega (arith, ints, clamps, of_not_le (int_max a.lo b.lo) (int_min a.hi b.hi) e, i.low, i.high, j.low, j.high))

gives : (clip : Bool) (y z : ℤ) → or_fault clip y ≡ Ok z → (clip ≡ true) × (y ≡ z)
gives true y z e = (refl, cc)
gives false y z e = cc

of_clipped : (v : Variable) (b : Bounds) (r : VarRange) → v.clip ≡ true → IfSome (kept_range v b) (Encloses r) → Encloses r (record { lo = nearest_declared v b.lo; hi = nearest_declared v b.hi })
of_clipped v b r clip h = subst (λ (c : Bool). IfSome (cond c (Some (record { lo = nearest_declared v b.lo; hi = nearest_declared v b.hi })) (overlap (declared_range v) (record { lo = b.lo; hi = b.hi }))) (Encloses r)) clip h

of_met : (v : Variable) (b : Bounds) (r : VarRange) → v.clip ≡ false → IfSome (kept_range v b) (Encloses r) → IfSome (overlap (declared_range v) (record { lo = b.lo; hi = b.hi })) (Encloses r)
of_met v b r clip h = subst (λ (c : Bool). IfSome (cond c (Some (record { lo = nearest_declared v b.lo; hi = nearest_declared v b.hi })) (overlap (declared_range v) (record { lo = b.lo; hi = b.hi }))) (Encloses r)) clip h

module _ (v : Variable) (b : Bounds) (r : VarRange) (ordered : v.lo ≤ℤ v.hi) (x : ℤ) (lies : NumberIn b x) where
  pub kept_in_bounds : IfSome (kept_range v b) (Encloses r) → KeptLies v r x
  kept_in_bounds h = record { lies = λ y done. by y (side_of_range v.lo v.hi x) v.clip refl done } where
    by : (y : ℤ) → SideOfRange v.lo v.hi x → (clip : Bool) → v.clip ≡ clip → kept v x ≡ Ok y → LiesIn r y
    by y (inside a c e) true clip done =
        let same : x ≡ y = (let d = kept_inside v x e in cc) in
        let o = of_clipped v b r clip h in
        subst (LiesIn r) same (record { low = omega (arith, ints, clamps, o.low, lies.low, lies.high); high = omega (arith, ints, clamps, o.high, lies.low, lies.high) })
    by y (inside a c e) false clip done =
        let same : x ≡ y = (let d = kept_inside v x e in cc) in
        subst (LiesIn r) same (met (declared_range v) (record { lo = b.lo; hi = b.hi }) r x (record { low = a; high = c }) (record { low = lies.low; high = lies.high }) (of_met v b r clip h))
    by y (under a e i) c clip done =
        let (clips, same) = gives v.clip v.lo y (sym (kept_under v x e i) ∙ done) in
        let o = of_clipped v b r clips h in
        subst (LiesIn r) same (record { low = omega (arith, ints, clamps, o.low, lies.low, lies.high); high = omega (arith, ints, clamps, o.high, lies.low, lies.high) })
    by y (over a d e i) c clip done =
        let (clips, same) = gives v.clip v.hi y (sym (kept_over v x e i) ∙ done) in
        let o = of_clipped v b r clips h in
        subst (LiesIn r) same (record { low = omega (arith, ints, clamps, o.low, lies.low, lies.high); high = omega (arith, ints, clamps, o.high, lies.low, lies.high) })

-- what is kept lies in the declared range
pub kept_as_declared : (v : Variable) (x : ℤ) → v.lo ≤ℤ v.hi → KeptLies v (declared_range v) x
kept_as_declared v x ordered = record { lies = λ y done. by y (side_of_range v.lo v.hi x) done } where
  by : (y : ℤ) → SideOfRange v.lo v.hi x → kept v x ≡ Ok y → LiesIn (declared_range v) y
  by y (inside a c e) done =
      let same : x ≡ y = (let d = kept_inside v x e in cc) in subst (LiesIn (declared_range v)) same (record { low = a; high = c })
  by y (under a e i) done =
      let (clips, same) = gives v.clip v.lo y (sym (kept_under v x e i) ∙ done) in subst (LiesIn (declared_range v)) same (record { low = omega (arith, ints); high = ordered })
  by y (over a d e i) done =
      let (clips, same) = gives v.clip v.hi y (sym (kept_over v x e i) ∙ done) in subst (LiesIn (declared_range v)) same (record { low = ordered; high = omega (arith, ints) })
