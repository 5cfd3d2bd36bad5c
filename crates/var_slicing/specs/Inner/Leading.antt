-- The leader of each stream: the first draw from it whose variable is one of so many.
use Rattle.std.specs.Prelude.{ℕ, ◌==◌, nat_lt, ◌&&◌, cond, List, [], ◌∷◌, ◌++◌, Option, Some, None, is_none}
use Rattle.std.specs.Option.{option_map_or}

-- the variable of the first draw from a stream
abbrev pub leader : List (ℕ × ℕ) → ℕ → Option ℕ
leader [] stream = None
leader ((s, v) ∷ draws) stream = cond (s == stream) (Some v) (leader draws stream)

-- a draw leads its stream if its variable is one of so many, and the stream has no leader
abbrev pub next_leaders : ℕ → List (ℕ × ℕ) → ℕ → ℕ → List (ℕ × ℕ)
next_leaders count leaders stream v = cond (nat_lt v count && is_none (leader leaders stream)) (leaders ++ (stream, v) ∷ []) leaders

abbrev pub leaders_after : ℕ → List (ℕ × ℕ) → List (ℕ × ℕ) → List (ℕ × ℕ)
leaders_after count leaders [] = leaders
leaders_after count leaders ((s, v) ∷ draws) = leaders_after count (next_leaders count leaders s v) draws

abbrev pub leaders_of : ℕ → List (ℕ × ℕ) → List (ℕ × ℕ)
leaders_of count draws = leaders_after count [] draws

-- the pairs from a draw's variable to its leader and back
abbrev pub leader_pairs : List (ℕ × ℕ) → ℕ × ℕ → List (ℕ × ℕ)
leader_pairs leaders (s, v) = option_map_or (λ l. (l, v) ∷ (v, l) ∷ []) (leader leaders s) []
