-- Written models that say a version, and models at the limits of version 1.
use Rattle.std.specs.Prelude.{ℕ, ◌+◌, pos, false, List, [], ◌∷◌, Option, Some, codes, replicate}
use Rattle.model_core.specs.declared.model.Kind.TheVariants as kinds
use Rattle.model_core.specs.EventGraph.{EventGraph, Variable, Set, scalar_location}
use Rattle.model_core.specs.Text.Written.{WrittenNumber, RangeKind, SignedLiteral, WrittenVariable, WrittenModel}
use Rattle.worked_runs.specs.Building.{whole}
use Rattle.worked_runs.specs.WrittenParts.{spelled, figure, plain_figure, run_at, composed}

-- an array of so many cells, whose word `var` is at this byte: `var A[..] : 0..9 = 0;`
abbrev pub array_at : ℕ → ℕ → WrittenVariable
array_at at cells = record { at = at; name = spelled (codes "A") (at + 4); size = Some (figure cells (at + 6)); kind = RangeKind (plain_figure 0 (at + 15)) (plain_figure 9 (at + 18)) false; initial = SignedLiteral (plain_figure 0 (at + 22)) }

-- a model that says this of its version, with these variables
abbrev pub saying : Option WrittenNumber → List WrittenVariable → WrittenModel
saying version variables = record (composed variables (run_at 100 [] [] ∷ []) 120) { version = version }

-- version 2, its number at byte 8
abbrev pub second : Option WrittenNumber
second = Some (figure 2 8)

-- a variable of so many cells
abbrev pub array_of : ℕ → Variable
array_of n = record { name = codes "A"; size = n; kind = kinds.Range; lo = pos 0; hi = pos 9; clip = false; initial = pos 0 }

-- a model of this array and a vertex with so many parameters and a `set` of so many targets
abbrev pub of_sizes : ℕ → ℕ → ℕ → EventGraph
of_sizes n parameters targets = record {
  name = codes "W";
  variables = array_of n ∷ [];
  tables = [];
  watch = [];
  vertices = record { name = codes "RUN"; parameters = replicate parameters 0; changes = Set (replicate targets (scalar_location 0)) (replicate targets (whole 1)) ∷ []; edges = [] } ∷ [];
}
