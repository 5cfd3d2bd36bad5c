-- Pairs of a place and one of its successors, and the lists of successors.
use Rattle.std.proofs.Common.{◌≡◌, ◌⊎◌, inl, inr, ℕ, zero, suc, ◌+◌, List, [], ◌∷◌, ap, subst, arith}
use Rattle.model_core.specs.Rules.Needed.{each_beside}
use Rattle.model_core.proofs.Among.{Among, among-map, among-of_map, among-front, among-back, among-either}
use Rattle.mark_laws.specs.PlacePairs.{successors_of, pairs_from}

pub successors-pairs : (next : List (List ℕ)) (before at k j : ℕ) → before + k ≡ at → Among j (successors_of next k) → Among (at, j) (pairs_from before next)
successors-pairs [] before at k j is among = absurd among
successors-pairs (ks ∷ next) before at zero j is among =
    let same : before ≡ at = omega (arith, is) in
    among-front (each_beside before ks) (pairs_from (before + 1) next) (at, j) (subst (λ (n : ℕ). Among (n, j) (each_beside before ks)) same (among-map (λ w. (before, w)) ks j among))
successors-pairs (ks ∷ next) before at (suc k) j is among = among-back (each_beside before ks) (pairs_from (before + 1) next) (at, j) (successors-pairs next (before + 1) at k j (omega (arith, is)) among)

pub pairs-successors : (next : List (List ℕ)) (before at j : ℕ) → Among (at, j) (pairs_from before next) → (k : ℕ) × (before + k ≡ at) × Among j (successors_of next k)
pairs-successors [] before at j among = absurd among
pairs-successors (ks ∷ next) before at j among = by (among-either (each_beside before ks) (pairs_from (before + 1) next) (at, j) among) (pairs-successors next (before + 1) at j) where
  by : Among (at, j) (each_beside before ks) ⊎ Among (at, j) (pairs_from (before + 1) next) → (Among (at, j) (pairs_from (before + 1) next) → (k : ℕ) × (before + 1 + k ≡ at) × Among j (successors_of next k)) → (k : ℕ) × (before + k ≡ at) × Among j (successors_of (ks ∷ next) k)
  by (inl here) rest =
      let (w, there, is) = among-of_map (λ w. (before, w)) ks (at, j) here in
      let first : before ≡ at = ap (λ (p : ℕ × ℕ). p.0) is in
      let second : w ≡ j = ap (λ (p : ℕ × ℕ). p.1) is in
      (zero, omega (arith, first), subst (λ (n : ℕ). Among n ks) second there)
  by (inr later) rest = let (k, is, there) = rest later in (suc k, omega (arith, is), there)
