-- What tests of numbers, truths and options decide, where std has no lemma of that form.
use Rattle.std.proofs.Common.{◌≡◌, ◌≤◌, ℕ, suc, ℤ, ◌≤ℤ◌, Bool, true, false, Option, Some, None, is_none, nat_lt, int_le, refl, arith}
use Rattle.std.specs.Ordering.{int_eq}
use Rattle.std.proofs.lemmas.Bool.Decides.{nat_tests, Decides-int_eq}
use Rattle.std.proofs.lemmas.Int.{ints}

pub nat_lt-zero : (n : ℕ) → nat_lt n 0 ≡ false
nat_lt-zero n = grind (arith, nat_tests)

pub nat_lt-suc : (n most : ℕ) → n ≤ most → nat_lt n (suc most) ≡ true
nat_lt-suc n most few = grind (arith, nat_tests)

pub int_le-true : (a b : ℤ) → a ≤ℤ b → int_le a b ≡ true
int_le-true a b e = grind (arith, ints)

pub true-int_le : (a b : ℤ) → int_le a b ≡ true → a ≤ℤ b
true-int_le a b e = grind (arith, ints)

pub int_eq-true : (a b : ℤ) → a ≡ b → int_eq a b ≡ true
int_eq-true a b e = grind (arith, nat_tests, Decides-int_eq)

pub not_both : (b : Bool) → b ≡ true → b ≡ false → ⊥
not_both b e f = cc

pub none-is_none : {A : Type 0} (o : Option A) → is_none o ≡ true → o ≡ None
none-is_none None e = refl
none-is_none (Some x) e = cc

pub some_is_not_none : {A : Type 0} (o : Option A) (x : A) → o ≡ None → o ≡ Some x → ⊥
some_is_not_none o x e f = cc
