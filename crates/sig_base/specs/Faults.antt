-- The count of the failed calls of a source or a sink.
use Rattle.std.specs.Prelude.{◌≡◌, ◌<◌, ◌-◌, ◌^◌, ◌⊎◌, ℕ}

-- where a count stops: the largest number of 64 bits
abbrev pub last_count : ℕ
last_count = 2 ^ 64 - 1

-- a later count has risen over an earlier one where it is greater, or where both are the last value
abbrev pub HasRisen : ℕ → ℕ → Type 0
HasRisen old new = (old < new) ⊎ ((old ≡ last_count) × (new ≡ last_count))
