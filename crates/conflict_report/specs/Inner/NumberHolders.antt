-- Sets of vertices as the bits of words, and for each number the set of the vertices that hold it.
use Rattle.std.specs.Prelude.{◌≡◌, ℕ, ◌/◌, ◌%◌, ◌==◌, nat_lt, Bool, ◌&&◌, ◌||◌, cond, List, [], length, slice_index, slice_index_or}
use Rattle.std.specs.Int.{bit_at}
use Rattle.std.specs.List.{range_with_len, list_any}
use Rattle.model_core.specs.Rules.MarkedPlaces.{is_among}

-- the set has the vertex at this place
unfoldable pub has_vertex : List ℕ → ℕ → Bool
has_vertex words place = bit_at (slice_index words (place / 64)) (place % 64) == 1

-- of the sets for each number, that of this number has the vertex
unfoldable pub holds : List (List ℕ) → ℕ → ℕ → Bool
holds sets number vertex = has_vertex (slice_index_or sets number []) vertex

-- two vertices hold a number in common, the first by some sets and the second by others
abbrev pub hold_common : List (List ℕ) → List (List ℕ) → ℕ → ℕ → Bool
hold_common sets others a b = list_any (λ k. holds sets k a && holds others k b) (range_with_len 0 (length sets))

-- by the sets each vertex holds these numbers and no others
abbrev pub HoldExactly : (ℕ → List ℕ) → List (List ℕ) → Type 0
HoldExactly numbers sets = (k j : ℕ) → holds sets k j ≡ is_among (numbers j) k

-- each vertex holds these numbers, and those that it held before
abbrev pub HoldMore : (ℕ → List ℕ) → List (List ℕ) → List (List ℕ) → Type 0
HoldMore numbers old new = (k j : ℕ) → holds new k j ≡ (is_among (numbers j) k || holds old k j)

-- these numbers at the one vertex, and none at others
abbrev pub only_at : ℕ → List ℕ → ℕ → List ℕ
only_at vertex numbers j = cond (vertex == j) numbers []

-- the numbers of the vertices before this one
abbrev pub numbers_before : ℕ → (ℕ → List ℕ) → ℕ → List ℕ
numbers_before count numbers j = cond (nat_lt j count) (numbers j) []
