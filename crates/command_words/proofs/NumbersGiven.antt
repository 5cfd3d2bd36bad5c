-- The numbers that options give lie within their limits.
use Rattle.std.proofs.Common.{◌≡◌, ◌&&◌, ◌≤◌, ℕ, Bool, true, false, cond, refl, arith, nat_le, List, [], ◌∷◌, Option, Some, None}
use Rattle.std.specs.Prelude.{IfSome}
use Rattle.std.proofs.lemmas.Bool.{and_parts}
use Rattle.std.proofs.lemmas.Bool.Decides.{nat_tests}
use Rattle.command_words.specs.ArgumentValues.{is_digits, number_written, number_within, needed, besides}

-- the number lies between these
abbrev pub IsFrom : ℕ → ℕ → ℕ → Type 0
IsFrom lowest highest n = (lowest ≤ n) × (n ≤ highest)

-- a number that there is does
abbrev Lies : ℕ → ℕ → Option ℕ → Type 0
Lies lowest highest o = IfSome o (IsFrom lowest highest)

number_lies : (lowest highest : ℕ) (text : List ℕ) → Lies lowest highest (number_within lowest highest text)
number_lies lowest highest text = by (is_digits text && (nat_le lowest (number_written text) && nat_le (number_written text) highest)) refl
  where
    by : (b : Bool) → (is_digits text && (nat_le lowest (number_written text) && nat_le (number_written text) highest)) ≡ b → Lies lowest highest (cond b (Some (number_written text)) None)
    by false e = tt
    by true e =
        let within = (and_parts (is_digits text) (nat_le lowest (number_written text) && nat_le (number_written text) highest) e).1 in
        let parts = and_parts (nat_le lowest (number_written text)) (nat_le (number_written text) highest) within in
        (grind (arith, nat_tests, parts.0), grind (arith, nat_tests, parts.1))

pub needed_lies : (lowest highest : ℕ) (values : List (List ℕ)) → Lies lowest highest (needed (number_within lowest highest) values)
needed_lies lowest highest [] = tt
needed_lies lowest highest (value ∷ []) = number_lies lowest highest value
needed_lies lowest highest (value ∷ other ∷ values) = tt

pub besides_lies : (lowest usual highest : ℕ) (values : List (List ℕ)) → IsFrom lowest highest usual → Lies lowest highest (besides usual (number_within lowest highest) values)
besides_lies lowest usual highest [] between = between
besides_lies lowest usual highest (value ∷ []) between = number_lies lowest highest value
besides_lies lowest usual highest (value ∷ other ∷ values) between = tt
