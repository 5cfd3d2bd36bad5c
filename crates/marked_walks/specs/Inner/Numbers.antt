-- New numbers of marked places, kept in a table.
use Rattle.std.specs.Prelude.{◌≡◌, ℕ, List, Bool, length, map}
use Rattle.std.specs.List.{range_with_len}
use Rattle.model_core.specs.Rules.MarkedPlaces.{rank}

-- the number of each place, and how many are marked
pub record HasNumbers (marks : List Bool) (table : List ℕ) (staying : ℕ) : Type 0 where
  pub numbers : table ≡ map (rank marks) (range_with_len 0 (length marks))
  pub count : staying ≡ rank marks (length marks)
