-- How many bytes the lines of what each vertex does have, where that is known.
use Rattle.std.specs.Prelude.{◌≡◌, ℕ, ◌-◌, ◌^◌, List, Option, Some, None, length, min, slice_index_or}
use Rattle.model_core.specs.EventGraph.{EventGraph}
use Rattle.model_core.specs.Run.Step.{vertex_at}
use Rattle.vertex_laws.specs.BodyLines.{body_lines}

-- a number of bytes, or 2^64 - 1 where there are more
abbrev pub capped : ℕ → ℕ
capped n = min n (2 ^ 64 - 1)

-- the number of bytes, where there is one, is that of these lines
abbrev pub LengthIsRight : Option ℕ → List ℕ → Type 0
LengthIsRight (Some bytes) lines = bytes ≡ capped (length lines)
LengthIsRight None lines = Unit {0}

-- each number, where there is one, is that of the lines of the changes and edges of the vertex at its place
abbrev pub BodiesAreRight : EventGraph → List (Option ℕ) → Type 0
BodiesAreRight g bodies = (k : ℕ) → LengthIsRight (slice_index_or bodies k None) (body_lines g (vertex_at g k))
