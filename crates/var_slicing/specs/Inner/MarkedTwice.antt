-- Marks that are found, and found once more with what may fault where nothing is marked.
use Rattle.std.specs.Prelude.{ℕ, Bool, List, ◌++◌, length}
use Rattle.model_core.specs.EventGraph.{EventGraph}
use Rattle.model_core.specs.Rules.Entailed.{entailed_marks}
use Rattle.mark_laws.specs.PlacePairs.{pairs_from}
use Rattle.var_slicing.specs.Inner.Faulting.{faulting_unless}

-- what follows from the first places over the list of each place
abbrev pub marked_over : List (List ℕ) → List ℕ → List Bool
marked_over next first = entailed_marks (length next) first (pairs_from 0 next)

abbrev pub marked_with_faults : EventGraph → List (List ℕ) → List ℕ → List Bool
marked_with_faults g next first = marked_over next (first ++ faulting_unless (marked_over next first) g)
