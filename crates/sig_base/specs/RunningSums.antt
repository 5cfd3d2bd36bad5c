-- What a table keeps beside its weights, so that a draw finds its row in a step or two.
use Rattle.std.specs.Prelude.{ℕ, ◌+◌, ◌*◌, ◌^◌, ◌<◌, ◌≤◌, List, [], ◌∷◌, length, slice_index_or}
use Rattle.sig_base.specs.Stream.{share}

-- of each number the sum with those before it, where all that lie before the list sum to `before`
abbrev pub running_sums : ℕ → List ℕ → List ℕ
running_sums before [] = []
running_sums before (x ∷ xs) = (before + x) ∷ running_sums (before + x) xs

-- this is a place among the sums, or their end, and those before it are at most x
abbrev pub AtMostBefore : List ℕ → ℕ → ℕ → Type 0
AtMostBefore sums x place = (place ≤ length sums) × ((i : ℕ) → i < place → slice_index_or sums i 0 ≤ x)

-- for each part of 2 ^ shift words the place at which the search for the share of any of its words begins
abbrev pub StartsAt : List ℕ → ℕ → ℕ → List ℕ → Type 0
StartsAt sums total shift starts =
    (part : ℕ) → part < length starts → AtMostBefore sums (share (part * 2 ^ shift) total) (slice_index_or starts part 0)
