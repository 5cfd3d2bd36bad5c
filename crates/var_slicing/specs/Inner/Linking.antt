-- Pairs put into lists, one for each place.
use Rattle.std.specs.Prelude.{ℕ, List, [], ◌∷◌, ◌++◌, map}
use Rattle.std.specs.List.{range_with_len}
use Rattle.model_core.specs.Rules.PlacedEdges.{with_place}

abbrev pub no_lists : ℕ → List (List ℕ)
no_lists count = map (λ k. []) (range_with_len 0 count)

abbrev pub with_successor : ℕ → List ℕ → List ℕ
with_successor k ks = ks ++ k ∷ []

abbrev pub lists_of_pairs : List (ℕ × ℕ) → List (List ℕ) → List (List ℕ)
lists_of_pairs [] next = next
lists_of_pairs ((j, k) ∷ pairs) next = lists_of_pairs pairs (with_place (with_successor k) j next)
