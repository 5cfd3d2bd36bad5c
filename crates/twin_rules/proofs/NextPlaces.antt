-- Places up to the next one, and from one on: the next place, or one of the others.
use Rattle.std.proofs.Common.{◌≡◌, ◌⊎◌, ℕ, ◌+◌, ◌<◌, ◌≤◌, arith}

pub last-or-before : (k place : ℕ) → k < place + 1 → (k < place) ⊎ (k ≡ place)
last-or-before k place less = grind arith

pub first-or-after : (place k : ℕ) → place ≤ k → (k ≡ place) ⊎ (place + 1 ≤ k)
first-or-after place k at = grind arith
