-- Digits that are taken in one after another.
use Rattle.std.proofs.Common.{ℕ, ◌+◌, ◌-◌, ◌*◌, ◌<◌, ◌≤◌, List, length, get_or, map, drop, arith}
use Rattle.std.specs.Int.Digits.{number_from_digits_after}
use Rattle.std.proofs.lemmas.List.{at_drop_more}
use Rattle.std.proofs.lemmas.Int.Digits.{number_after_ge}

-- one digit taken in makes no number larger than all of them do
pub digit-le-number : (digits : List ℕ) (i value : ℕ) → i < length digits → value * 10 + (get_or digits i 0 - 48) ≤ number_from_digits_after 10 value (map (λ c. c - 48) (drop i digits))
digit-le-number digits i value i_in =
    rw (at_drop_more (λ (later : List ℕ). number_from_digits_after 10 value (map (λ c. c - 48) later)) digits i 0 i_in) (number_after_ge 10 (value * 10 + (get_or digits i 0 - 48)) (map (λ c. c - 48) (drop (i + 1) digits)) (omega arith))
