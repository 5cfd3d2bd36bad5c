-- A small run whose report is worked out by hand.
use Rattle.std.specs.Prelude.{ℕ, ℤ, pos, negsuc, false, List, [], ◌∷◌, codes}
use Rattle.model_core.specs.declared.model.Kind.TheVariants as kinds
use Rattle.model_core.specs.EventGraph.{EventGraph, Variable, WatchedVariable, WatchedVertex}
use Rattle.model_core.specs.Run.Machine.{Look, At, On, Stopped, Going}
use Rattle.tally_report.specs.declared.run_tally.RunTally.{RunTally}
use Rattle.tally_report.specs.Tallying.{tally_of}

abbrev pub shelf_variable : List ℕ → ℕ → Variable
shelf_variable name size = record { name = name; size = size; kind = kinds.Range; lo = negsuc 8; hi = pos 9; clip = false; initial = pos 0 }

-- a scalar, a vertex and an array of two cells are watched
abbrev pub shelf : EventGraph
shelf = record {
  name = codes "SHELF";
  variables = shelf_variable (codes "N") 0 ∷ shelf_variable (codes "A") 2 ∷ [];
  tables = [];
  watch = WatchedVariable 0 ∷ WatchedVertex 0 ∷ WatchedVariable 1 ∷ [];
  vertices = record { name = codes "RUN"; parameters = []; changes = []; edges = [] } ∷ [];
}

abbrev pub shelf_values : ℤ → ℤ → ℤ → List (List ℤ)
shelf_values n a b = (n ∷ []) ∷ (a ∷ b ∷ []) ∷ []

-- the values change at 3 and at 10
abbrev pub shelf_seen : Look
shelf_seen = record {
  history =
      At 0 (shelf_values (pos 1) (pos 5) (pos 6))
      ∷ On 3 1 (shelf_values (pos 2) (pos 5) (pos 0))
      ∷ At 3 (shelf_values (pos 4) (pos 5) (negsuc 0))
      ∷ At 10 (shelf_values (pos 2) (pos 0) (negsuc 0))
      ∷ On 11 1 (shelf_values (pos 9) (pos 9) (pos 9))
      ∷ [];
  standing = Stopped;
}

abbrev pub shelf_run : RunTally
shelf_run = tally_of shelf 12 shelf_seen

-- nothing was noted before the budget was spent
abbrev pub shelf_unseen : RunTally
shelf_unseen = tally_of shelf 12 (record { history = []; standing = Going })
