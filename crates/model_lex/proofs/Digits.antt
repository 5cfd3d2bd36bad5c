-- The digits of a number.
use Rattle.std.proofs.Common.{◌≡◌, ℕ, ◌+◌, ◌-◌, ◌*◌, ◌^◌, ◌<◌, ◌≤◌, cond, List, length, drop, map, ap, arith, get_or, pos}
use Rattle.std.specs.Prelude.{Some, None}
use Rattle.std.specs.Int.Digits.{number_from_digits_after}
use Rattle.std.proofs.lemmas.Bool.{le-ltb}
use Rattle.sig_base.proofs.DigitsTaken.{digit-le-number}
use Rattle.model_core.specs.Text.Lexing.{literal_value}

-- what the digits from a place on make of the value before them
abbrev pub number_on : ℕ → List ℕ → ℕ
number_on value digits = number_from_digits_after 10 value (map (λ c. c - 48) digits)

-- digits of a number of 2^63 or more have no value
pub literal_value-large : (digits : List ℕ) → 2 ^ 63 ≤ number_on 0 digits → literal_value digits ≡ None
literal_value-large digits large = ap (λ b. cond b (Some (pos (number_on 0 digits))) None) (le-ltb (number_on 0 digits) (2 ^ 63) large)

-- where the value so far and one digit more are too large, so are all of the digits
pub no_value : (digits : List ℕ) (i value : ℕ) → i < length digits → number_on value (drop i digits) ≡ number_on 0 digits → 2 ^ 63 ≤ value * 10 + (get_or digits i 0 - 48) → literal_value digits ≡ None
no_value digits i value i_in same large =
    let more : value * 10 + (get_or digits i 0 - 48) ≤ number_on value (drop i digits) = digit-le-number digits i value i_in in
    literal_value-large digits (omega arith)
