-- The number that digits write, read one digit after the other.
use Rattle.std.proofs.Common.{◌≡◌, ℕ, ◌+◌, ◌-◌, ◌*◌, ◌<◌, ◌≤◌, suc, false, nat_lt, List, length, drop, map, None, ap, sym, arith, get_or}
use Rattle.std.specs.Int.Digits.{number_from_digits_after}
use Rattle.std.proofs.lemmas.Bool.Decides.{nat_tests}
use Rattle.sig_base.proofs.DigitsTaken.{digit-le-number}
use Rattle.model_core.specs.Text.Lexing.{digits_value}
use Rattle.snapshot_text.specs.Inner.Judging.{if_good}

abbrev pub number_on : ℕ → List ℕ → ℕ
number_on value digits = number_from_digits_after 10 value (map (λ c. c - 48) digits)

above : (n m : ℕ) → m < n → nat_lt n (suc m) ≡ false
above n m more = grind (arith, nat_tests)

-- a number above this one isn't kept
pub too_large : (digits : List ℕ) (most : ℕ) → most < digits_value digits → None ≡ if_good (nat_lt (digits_value digits) (suc most)) (digits_value digits)
too_large digits most more = sym (ap (λ b. if_good b (digits_value digits)) (above (digits_value digits) most more))

-- nor is it where the value so far and one digit more are above it
pub too_large_so_far : (digits : List ℕ) (most i value : ℕ) → i < length digits → number_on value (drop i digits) ≡ number_on 0 digits → most < value * 10 + (get_or digits i 0 - 48)
    → None ≡ if_good (nat_lt (digits_value digits) (suc most)) (digits_value digits)
too_large_so_far digits most i value inside same more =
    let one : value * 10 + (get_or digits i 0 - 48) ≤ number_on value (drop i digits) = digit-le-number digits i value inside in
    too_large digits most (omega arith)
