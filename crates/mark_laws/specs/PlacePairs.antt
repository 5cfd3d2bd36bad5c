-- The successors of each place, as lists and as pairs.
use Rattle.std.specs.Prelude.{ℕ, ◌+◌, List, [], ◌∷◌, ◌++◌, slice_index_or}
use Rattle.model_core.specs.Rules.Needed.{each_beside}

-- the successors of a place
abbrev pub successors_of : List (List ℕ) → ℕ → List ℕ
successors_of next k = slice_index_or next k []

-- each place with each of its successors, where so many places come before these
abbrev pub pairs_from : ℕ → List (List ℕ) → List (ℕ × ℕ)
pairs_from before [] = []
pairs_from before (ks ∷ next) = each_beside before ks ++ pairs_from (before + 1) next
