-- How many parts of a model use each variable, as numbers that parts raise and lower.
use Rattle.std.specs.Prelude.{◌≡◌, ℕ, ◌+◌, ◌-◌, ◌^◌, ◌<◌, ◌≤◌, Bool, true, cond, List, [], ◌∷◌, length, replicate, slice_index}
use Rattle.model_core.specs.Rules.MarkedPlaces.{is_among}

-- a number for each variable: how many parts read it, and how many set it
pub record UseNumbers : Type 0 where
  pub readers : List ℕ
  pub setters : List ℕ

-- the numbers, of which the first is at this place, with f of each whose place passes the test instead
abbrev pub changed_where : (ℕ → Bool) → (ℕ → ℕ) → ℕ → List ℕ → List ℕ
changed_where test f place [] = []
changed_where test f place (n ∷ ns) = cond (test place) (f n) n ∷ changed_where test f (place + 1) ns

-- one more at each of these variables, once however often it occurs there
abbrev pub raised_at : List ℕ → List ℕ → List ℕ
raised_at vars numbers = changed_where (is_among vars) (λ n. n + 1) 0 numbers

-- one less at each of them
abbrev pub lowered_at : List ℕ → List ℕ → List ℕ
lowered_at vars numbers = changed_where (is_among vars) (λ n. n - 1) 0 numbers

-- so many variables that nothing uses
abbrev pub no_numbers : ℕ → UseNumbers
no_numbers count = record { readers = replicate count 0; setters = replicate count 0 }

-- the numbers of these variables can be raised, and lowered: each that is there
abbrev pub CanRaise : List ℕ → List ℕ → Type 0
CanRaise vars numbers = (v : ℕ) → v < length numbers → is_among vars v ≡ true → slice_index numbers v < 2 ^ 32

abbrev pub CanLower : List ℕ → List ℕ → Type 0
CanLower vars numbers = (v : ℕ) → v < length numbers → is_among vars v ≡ true → 1 ≤ slice_index numbers v
