-- Places that are found, and what holds while their successors are found.
use Rattle.std.specs.Prelude.{◌≡◌, ◌⊎◌, ℕ, ◌<◌, Bool, true, not, cond, List, [], ◌∷◌, ◌++◌, length, slice_index_or, slice_get, slice_set, Contains}
use Rattle.std.specs.Option.{option_map_or}
use Rattle.model_core.specs.Rules.MarkedPlaces.{is_marked}
use Rattle.model_core.specs.Rules.LeastRelations.{Entailed}
use Rattle.marked_walks.specs.declared.entailing.Finder.{Finder}
use Rattle.mark_laws.specs.PlacePairs.{successors_of, pairs_from}

pub record Found : Type 0 where
  pub marks : List Bool
  pub waiting : List ℕ

abbrev pub found_of : Finder → Found
found_of f = record { marks = f.marks.items; waiting = f.waiting.items }

-- there is such a place, and it isn't marked
abbrev pub is_unfound : List Bool → ℕ → Bool
is_unfound marks k = not (slice_index_or marks k true)

-- marks a place, which then waits, unless it is marked
abbrev pub find_one : Found → ℕ → Found
find_one f k = cond (is_unfound f.marks k) (record { marks = slice_set f.marks k true; waiting = f.waiting ++ k ∷ [] }) f

abbrev pub find_all : Found → List ℕ → Found
find_all f [] = f
find_all f (k ∷ ks) = find_all (find_one f k) ks

-- the one at this place of the list, if there is one
abbrev pub find_nth : Found → List ℕ → ℕ → Found
find_nth f ks n = option_map_or (find_one f) (slice_get ks n) f

-- the successors of a place are found
abbrev pub IsFollowed : List (List ℕ) → List Bool → ℕ → Type 0
IsFollowed next marks k = (j : ℕ) → Contains (successors_of next k) j → j < length next → is_marked marks j ≡ true

-- what is marked is entailed, and the successors of a marked place that doesn't wait are marked
pub record Going (first : List ℕ) (next : List (List ℕ)) (f : Found) : Type 0 where
  pub long : length f.marks ≡ length next
  pub entailed : (k : ℕ) → is_marked f.marks k ≡ true → Entailed (length next) first (pairs_from 0 next) k
  pub begins : (k : ℕ) → Contains first k → k < length next → is_marked f.marks k ≡ true
  pub waits : (k : ℕ) → Contains f.waiting k → is_marked f.marks k ≡ true
  pub followed : (k : ℕ) → is_marked f.marks k ≡ true → Contains f.waiting k ⊎ IsFollowed next f.marks k
