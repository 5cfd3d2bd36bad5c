-- Written models and models that pass a limit of version 1 after parts that don't.
use Rattle.std.specs.Prelude.{ℕ, ◌+◌, List, [], ◌∷◌, ◌++◌, Option, Some, None, codes, replicate}
use Rattle.model_core.specs.EventGraph.{EventGraph, Set, EventEdge, scalar_location}
use Rattle.model_core.specs.Text.Written as written
use Rattle.model_core.specs.Text.Written.{WrittenNumber, WrittenChange, WrittenVertex, WrittenModel}
use Rattle.worked_runs.specs.Building.{ranged, whole, event, takes}
use Rattle.worked_runs.specs.DrawnModels.{drawn_loop}
use Rattle.worked_runs.specs.VersionTexts.{array_at, array_of, saying}
use Rattle.worked_runs.specs.WrittenModels.{n_variable}
use Rattle.worked_runs.specs.WrittenParts.{spelled, constant, storing, leading, run_at, with_parameters}

-- a `set` of N beside so many further targets, the last at this byte
abbrev pub set_of : ℕ → ℕ → WrittenChange
set_of others last = written.Set 40 (replicate others (storing (codes "N") 44) ++ storing (codes "N") last ∷ []) (replicate (others + 1) (constant 1 70))

-- a model that says this of its version, with these vertices
abbrev pub of_vertices_saying : Option WrittenNumber → List WrittenVertex → WrittenModel
of_vertices_saying version vertices = record (saying version (n_variable ∷ [])) { vertices = vertices }

-- a `set` of so many targets, of which the ninth is at byte 54
abbrev pub of_targets : Option WrittenNumber → ℕ → WrittenModel
of_targets version count = of_vertices_saying version (run_at 27 (written.Set 40 (replicate count (storing (codes "N") 54)) (replicate count (constant 1 70)) ∷ []) [] ∷ [])

-- a vertex of so many parameters, all at byte 38
abbrev pub of_parameters : Option WrittenNumber → ℕ → WrittenModel
of_parameters version count = of_vertices_saying version (with_parameters (replicate count (spelled (codes "N") 38)) (run_at 27 [] []) ∷ [])

-- the second of two arrays, and each part of the second of two vertices, passes a limit of version 1
abbrev pub everything : Option WrittenNumber → WrittenModel
everything version = record (saying version (array_at 9 4096 ∷ array_at 40 4097 ∷ [])) {
  vertices =
      run_at 100 (set_of 7 60 ∷ []) (leading 80 (spelled (codes "RUN") 89) (written.Schedule (Some (written.Fixed (constant 1 99))) None) ∷ [])
      ∷ with_parameters (replicate 9 (spelled (codes "N") 238)) (run_at 227 (set_of 7 60 ∷ set_of 8 254 ∷ []) (leading 280 (spelled (codes "RUN") 287) written.Urgent ∷ drawn_loop ∷ [])) ∷ [];
}

-- a model whose second array has so many cells, and whose second vertex has so many parameters, as its second change a
-- `set` of so many targets, and these edges
abbrev pub with_later_parts : ℕ → ℕ → ℕ → List EventEdge → EventGraph
with_later_parts cells parameters targets edges = record {
  name = codes "W";
  variables = ranged (codes "N") 0 9 0 ∷ array_of cells ∷ [];
  tables = [];
  watch = [];
  vertices =
      event (codes "RUN") [] []
      ∷ takes (replicate parameters 0) (event (codes "A") (Set (scalar_location 0 ∷ []) (whole 1 ∷ []) ∷ Set (replicate targets (scalar_location 0)) (replicate targets (whole 1)) ∷ []) edges) ∷ [];
}
