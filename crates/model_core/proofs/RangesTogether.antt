-- Numbers in the ranges of two lists of variables, one after the other.
use Rattle.std.proofs.Common.{◌≡◌, ℤ, true, List, [], ◌∷◌, ◌++◌, length, take, drop, refl}
use Rattle.std.proofs.lemmas.Bool.{and_from}
use Rattle.model_core.specs.EventGraph.{Variable}
use Rattle.model_core.specs.Run.State.{within, in_ranges}
use Rattle.model_core.proofs.BothTrue.{and_first, and_second}

-- they are in range together
pub in_ranges-append : (vs ws : List Variable) (xs ys : List ℤ) → in_ranges vs xs ≡ true → in_ranges ws ys ≡ true → in_ranges (vs ++ ws) (xs ++ ys) ≡ true
in_ranges-append [] ws [] ys e h = h
in_ranges-append [] ws (x ∷ xs) ys e h = cc
in_ranges-append (v ∷ vs) ws [] ys e h = cc
in_ranges-append (v ∷ vs) ws (x ∷ xs) ys e h = and_from _ _ (and_first (within v.lo v.hi x) _ e) (in_ranges-append vs ws xs ys (and_second (within v.lo v.hi x) _ e) h)

-- and where they are so, the first and the others are by themselves
pub split-ranges : (vs ws : List Variable) (xs : List ℤ) → in_ranges (vs ++ ws) xs ≡ true → (in_ranges vs (take (length vs) xs) ≡ true) × (in_ranges ws (drop (length vs) xs) ≡ true)
split-ranges [] ws xs e = (refl, e)
split-ranges (v ∷ vs) ws [] e = cc
split-ranges (v ∷ vs) ws (x ∷ xs) e =
    let (here, later) = split-ranges vs ws xs (and_second (within v.lo v.hi x) _ e) in
    (and_from _ _ (and_first (within v.lo v.hi x) _ e) here, later)
