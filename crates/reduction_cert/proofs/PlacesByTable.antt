-- What names mean, by a table of their places.
use Rattle.std.proofs.Common.{◌≡◌, ℕ, List}
use Rattle.model_core.specs.Text.Numbering.{declared_place, each_numbered}
use Rattle.model_read.specs.NamesPlaced.{listed_place, HasPlaces}

-- the places of all of these names
pub all_by_table : (names : List (List ℕ)) (table : List (List ℕ × ℕ)) (ns : List (List ℕ)) → HasPlaces names table → each_numbered (λ name. listed_place name table) ns ≡ each_numbered (λ name. declared_place name names) ns
all_by_table names table ns has = λ i. each_numbered (λ name. has name i) ns
