-- What a comparison leaves of a range is the least range of the numbers for which it holds.
use Rattle.std.proofs.Common.{◌≡◌, ℤ, pos, ◌+ℤ◌, ◌-ℤ◌, ◌≤ℤ◌, ◌<ℤ◌, Bool, true, false, not, cond, Ok, refl, ap, arith}
use Rattle.std.specs.Int.{int_min, int_max}
use Rattle.std.specs.Ordering.{int_eq}
use Rattle.std.proofs.lemmas.Int.{ints, clamps}
use Rattle.sig_base.proofs.Tests.{int_eq-true, int_le-true}
use Rattle.model_core.specs.EventGraph.{Operator, Equal, NotEqual, Below, AtMost, Above, AtLeast}
use Rattle.model_core.specs.Run.Value.{number_of}
use Rattle.model_core.specs.Rules.Exclusive.{compares, is_comparison}
use Rattle.bound_laws.proofs.Soundness.Ends.{of_lt}
use Rattle.model_core.specs.declared.var_range.VarRange.{VarRange}
use Rattle.model_core.specs.Ranges.OtherRanges.{LiesIn}
use Rattle.model_core.specs.Ranges.Refined.{numbers_left}
use Rattle.model_core.specs.Ranges.Inductive.{Encloses}
use Rattle.range_infer.proofs.NumbersLeft.{up_by, down_by, by_test}

pub all_left : (op : Operator) (n x : ℤ) (r : VarRange) → LiesIn r x → compares op x n ≡ true → LiesIn (numbers_left op n r) x
all_left Equal n x r i e = by_test Equal true n x r i (ap (λ (b : Bool). Ok (number_of b)) e)
all_left NotEqual n x r i e = by_test NotEqual true n x r i (ap (λ (b : Bool). Ok (number_of b)) e)
all_left Below n x r i e = by_test Below true n x r i (ap (λ (b : Bool). Ok (number_of b)) e)
all_left AtMost n x r i e = by_test AtMost true n x r i (ap (λ (b : Bool). Ok (number_of b)) e)
all_left Above n x r i e = by_test Above true n x r i (ap (λ (b : Bool). Ok (number_of b)) e)
all_left AtLeast n x r i e = by_test AtLeast true n x r i (ap (λ (b : Bool). Ok (number_of b)) e)
all_left op n x r i e = cc

-- where something is left, its ends are numbers of the range for which the comparison holds
record EndsHold (op : Operator) (n : ℤ) (r : VarRange) : Type 0 where
  low : LiesIn r (numbers_left op n r).lo × (compares op (numbers_left op n r).lo n ≡ true)
  high : LiesIn r (numbers_left op n r).hi × (compares op (numbers_left op n r).hi n ≡ true)

of_other : (a b : ℤ) → (a ≡ b → ⊥) → not (int_eq a b) ≡ true
of_other a b e = by (int_eq a b) refl where
  by : (t : Bool) → int_eq a b ≡ t → not t ≡ true
  by true same = absurd (e (grind (arith, ints)))
  by false other = refl

low_other : (b : Bool) (lo n : ℤ) → int_eq lo n ≡ b → cond b (lo +ℤ pos 1) lo ≡ n → ⊥
low_other true lo n e same = let is : lo ≡ n = grind (arith, ints) in omega (arith, ints, is, same)
low_other false lo n e same = grind (arith, ints)

high_other : (b : Bool) (hi n : ℤ) → int_eq hi n ≡ b → cond b (hi -ℤ pos 1) hi ≡ n → ⊥
high_other true hi n e same = let is : hi ≡ n = grind (arith, ints) in omega (arith, ints, is, same)
high_other false hi n e same = grind (arith, ints)

ends_hold : (op : Operator) (n : ℤ) (r : VarRange) → is_comparison op ≡ true → (numbers_left op n r).lo ≤ℤ (numbers_left op n r).hi → EndsHold op n r
ends_hold Below n r is some = record {
  low = (record { low = omega (arith, ints); high = omega (arith, ints, clamps, some) }, of_lt r.lo n (omega (arith, ints, clamps, some)));
  high = (record { low = some; high = omega (arith, ints, clamps) }, of_lt (int_min r.hi (n -ℤ pos 1)) n (omega (arith, ints, clamps)));
}
ends_hold AtMost n r is some = record {
  low = (record { low = omega (arith, ints); high = omega (arith, ints, clamps, some) }, int_le-true r.lo n (omega (arith, ints, clamps, some)));
  high = (record { low = some; high = omega (arith, ints, clamps) }, int_le-true (int_min r.hi n) n (omega (arith, ints, clamps)));
}
ends_hold Above n r is some = record {
  low = (record { low = omega (arith, ints, clamps); high = some }, of_lt n (int_max r.lo (n +ℤ pos 1)) (omega (arith, ints, clamps)));
  high = (record { low = omega (arith, ints, clamps, some); high = omega (arith, ints) }, of_lt n r.hi (omega (arith, ints, clamps, some)));
}
ends_hold AtLeast n r is some = record {
  low = (record { low = omega (arith, ints, clamps); high = some }, int_le-true n (int_max r.lo n) (omega (arith, ints, clamps)));
  high = (record { low = omega (arith, ints, clamps, some); high = omega (arith, ints) }, int_le-true n r.hi (omega (arith, ints, clamps, some)));
}
ends_hold Equal n r is some = record {
  low = (record { low = omega (arith, ints, clamps); high = omega (arith, ints, clamps, some) }, int_eq-true (int_max r.lo n) n (omega (arith, ints, clamps, some)));
  high = (record { low = omega (arith, ints, clamps, some); high = omega (arith, ints, clamps) }, int_eq-true (int_min r.hi n) n (omega (arith, ints, clamps, some)));
}
ends_hold NotEqual n r is some =
    let from_lo = up_by (int_eq r.lo n) r.lo in
    let to_hi = down_by (int_eq r.hi n) r.hi in
    record {
      low = (record { low = from_lo; high = omega (arith, ints, some, to_hi) }, of_other (numbers_left NotEqual n r).lo n (low_other (int_eq r.lo n) r.lo n refl));
      high = (record { low = omega (arith, ints, some, from_lo); high = to_hi }, of_other (numbers_left NotEqual n r).hi n (high_other (int_eq r.hi n) r.hi n refl));
    }
ends_hold op n r is some = cc

pub least_left : (op : Operator) (n : ℤ) (r s : VarRange) → is_comparison op ≡ true → (numbers_left op n r).lo ≤ℤ (numbers_left op n r).hi → ((x : ℤ) → LiesIn r x → compares op x n ≡ true → LiesIn s x) → Encloses s (numbers_left op n r)
least_left op n r s is some holds =
    let e = ends_hold op n r is some in
    record { low = (holds (numbers_left op n r).lo e.low.0 e.low.1).low; high = (holds (numbers_left op n r).hi e.high.0 e.high.1).high }

pub none_left : (op : Operator) (n x : ℤ) (r : VarRange) → is_comparison op ≡ true → (numbers_left op n r).hi <ℤ (numbers_left op n r).lo → LiesIn r x → compares op x n ≡ true → ⊥
none_left op n x r is none i e =
    let l = all_left op n x r i e in omega (arith, ints, none, l.low, l.high)
