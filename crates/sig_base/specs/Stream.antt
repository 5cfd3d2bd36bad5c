-- Random streams: the words that PCG32 gives, and the two picks that a draw makes from a word.
use Rattle.std.specs.Prelude.{ℕ, suc, ◌-◌, ◌*◌, ◌/◌, ◌^◌, ℤ, pos, ◌+ℤ◌, ◌-ℤ◌, nat_abs, cond, nat_lt, List, [], ◌∷◌, sum}
use Rattle.rand_pcg.specs.Lcg.{Lcg, started, increment_of, advance}
use Rattle.rand_pcg.specs.Pcg.{multiplier_64, pcg32}

-- the generator of a stream as a run with this seed begins
abbrev pub generator : ℕ → ℕ → Lcg
generator seed stream = started 64 multiplier_64 seed (increment_of 64 stream)

-- the word that the stream gives when so many were taken from it
abbrev pub word : ℕ → ℕ → ℕ → ℕ
word seed stream taken = (pcg32 (advance 64 multiplier_64 taken (generator seed stream))).0

-- a word, scaled from 2^32 values to n of them: w * n / 2^32, rounded down
abbrev pub share : ℕ → ℕ → ℕ
share w n = w * n / 2 ^ 32

-- a uniform draw from lo..hi: each of its values has the same share of the 2^32 words, to within one word
abbrev pub uniform_pick : ℤ → ℤ → ℕ → ℤ
uniform_pick lo hi w = lo +ℤ pos (share w (nat_abs (hi -ℤ lo +ℤ pos 1)))

-- the place of the first weight at which the weights summed so far exceed x
abbrev pub place_exceeding : List ℕ → ℕ → ℕ
place_exceeding [] x = 0
place_exceeding (weight ∷ weights) x = cond (nat_lt x weight) 0 (suc (place_exceeding weights (x - weight)))

-- a draw by weights: the place at which the weights summed so far first exceed the word, scaled to the sum of all weights
abbrev pub weighted_pick : List ℕ → ℕ → ℕ
weighted_pick weights w = place_exceeding weights (share w (sum weights))
