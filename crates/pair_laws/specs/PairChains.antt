-- Pairs that were looked at, and what they join.
use Rattle.std.specs.Prelude.{ℕ}

-- a number of the first model and one of the second, joined by links, each from the first to the second
pub data PairChain (L : ℕ → ℕ → Type 0) : ℕ → ℕ → Type 0 where
  link : (a b : ℕ) → L a b → PairChain L a b
  longer : (a b c d : ℕ) → PairChain L a b → L c b → L c d → PairChain L a d
