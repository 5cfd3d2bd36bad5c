-- What stays beside variables that do.
use Rattle.std.specs.Prelude.{ℕ, List, Bool, true, slice_get}
use Rattle.std.specs.Option.{option_map_or}
use Rattle.model_core.specs.Rules.MarkedPlaces.{is_marked}

-- the item at a place beside these variables stays: its variable is marked, or it has none
abbrev pub keeps_beside : List Bool → List ℕ → ℕ → Bool
keeps_beside marks variables k = option_map_or (is_marked marks) (slice_get variables k) true
