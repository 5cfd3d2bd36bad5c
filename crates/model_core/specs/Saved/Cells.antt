-- The cells of a state and of what is watched, as a list for each variable and as one list.
use Rattle.std.specs.Prelude.{ℕ, ℤ, List, [], ◌∷◌, map, replicate, take, drop, slice_get}
use Rattle.std.specs.List.{flat_map}
use Rattle.std.specs.Option.{option_map_or}
use Rattle.model_core.specs.EventGraph.{EventGraph, Variable, Watched, watched_variables}
use Rattle.model_core.specs.Run.State.{variable_at, cell_count}

-- how many cells the variable at a place has: none where there is no such variable
abbrev pub cells_declared : EventGraph → ℕ → ℕ
cells_declared g v = option_map_or cell_count (slice_get g.variables v) 0

-- how many cells each watched variable has
abbrev pub watched_sizes : EventGraph → List Watched → List ℕ
watched_sizes g watch = map (cells_declared g) (watched_variables watch)

-- values cut up into lists of these lengths
abbrev pub cut_up : List ℕ → List ℤ → List (List ℤ)
cut_up [] values = []
cut_up (n ∷ sizes) values = take n values ∷ cut_up sizes (drop n values)

-- the values of all lists, one list after the other
abbrev pub in_one_list : List (List ℤ) → List ℤ
in_one_list lists = flat_map (λ values. values) lists

-- the variable of each cell of these variables, in order
abbrev pub cell_variables : List Variable → List Variable
cell_variables variables = flat_map (λ v. replicate (cell_count v) v) variables

-- the variables that a watch list names
abbrev pub variables_watched : EventGraph → List Watched → List Variable
variables_watched g watch = map (variable_at g) (watched_variables watch)
