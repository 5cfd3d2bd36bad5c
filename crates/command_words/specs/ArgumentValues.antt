-- How the value of an option is read: numbers, and lists of starting values.
use Rattle.std.specs.Prelude.{ℕ, ◌-◌, ◌^◌, ℤ, pos, neg_ℤ, Bool, ◌&&◌, ◌==◌, nat_eq, nat_le, nat_lt, if◌then◌else◌, List, [], ◌∷◌, length, drop, map, codes, Option, Some, None, option_and_then}
use Rattle.std.specs.List.{starts_with, slice_split, list_all}
use Rattle.std.specs.Option.{option_map}
use Rattle.std.specs.Char.{is_ascii_digit}
use Rattle.std.specs.Int.Digits.{number_from_digits}

-- one or more digits
abbrev pub is_digits : List ℕ → Bool
is_digits text = nat_lt 0 (length text) && list_all is_ascii_digit text

-- the number that digits write, in decimal
abbrev pub number_written : List ℕ → ℕ
number_written text = number_from_digits 10 (map (λ c. c - 48) text)

-- the number that a text writes by digits alone, where it is neither below the lowest nor above the highest
abbrev pub number_within : ℕ → ℕ → List ℕ → Option ℕ
number_within lowest highest text =
    let n = number_written text in if is_digits text && (nat_le lowest n && nat_le n highest) then Some n else None

-- the whole number inside `i64` that a text writes by an optional `-` and digits
abbrev pub whole_number : List ℕ → Option ℤ
whole_number text =
    if starts_with nat_eq text (codes "-") then option_map (λ n. neg_ℤ (pos n)) (number_within 0 (2 ^ 63) (drop 1 text))
    else option_map (λ n. pos n) (number_within 0 (2 ^ 63 - 1) text)

-- the whole numbers that texts write, where each of them writes one
abbrev pub whole_numbers : List (List ℕ) → Option (List ℤ)
whole_numbers [] = Some []
whole_numbers (text ∷ texts) = option_and_then (λ n. option_map (λ ns. n ∷ ns) (whole_numbers texts)) (whole_number text)

-- one or more whole numbers inside `i64`, with commas between them
abbrev pub starting_values : List ℕ → Option (List ℤ)
starting_values text = whole_numbers (slice_split (λ c. c == 44) text)

-- ---- how often an option is given

-- the value of an option that has to be given: it is given once
abbrev pub needed : {A : Type 0} → (List ℕ → Option A) → List (List ℕ) → Option A
needed read (value ∷ []) = read value
needed read values = None

-- the value of an option that may be given: it is given once, or this is usual
abbrev pub besides : {A : Type 0} → A → (List ℕ → Option A) → List (List ℕ) → Option A
besides usual read [] = Some usual
besides usual read values = needed read values
