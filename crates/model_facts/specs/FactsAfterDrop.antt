-- What stays known of a graph without vertices that are dropped.
use Rattle.std.specs.Prelude.{ℕ, ◌+◌, ◌-◌, ◌^◌, Bool, ◌&&◌, cond, nat_lt, nat_le, List, [], ◌∷◌, length, slice_get, Option, Some, None}
use Rattle.std.specs.List.{list_any, remove}
use Rattle.std.specs.Option.{option_and_then}
use Rattle.model_core.specs.EventGraph.{EventGraph, EventVertex}
use Rattle.model_core.specs.Run.Step.{vertex_at}
use Rattle.model_core.specs.Text.Canonical.{vertex_lines}
use Rattle.model_core.specs.Text.VersionNeeded.{has_later_parts}

-- so many bytes with those of the lines of the vertex at this place: fewer than 2^64 - 1 of one vertex, and than 2^64 in all
abbrev pub bytes_with_vertex : EventGraph → ℕ → ℕ → Option ℕ
bytes_with_vertex g bytes k = option_and_then
    (λ (v : EventVertex). cond (nat_lt (length (vertex_lines g v)) (2 ^ 64 - 1) && nat_lt (bytes + length (vertex_lines g v)) (2 ^ 64)) (Some (bytes + length (vertex_lines g v))) None)
    (slice_get g.vertices k)

-- with those of the vertices at these places
abbrev pub bytes_with_vertices : EventGraph → ℕ → List ℕ → Option ℕ
bytes_with_vertices g bytes [] = Some bytes
bytes_with_vertices g bytes (k ∷ ks) = option_and_then (λ more. bytes_with_vertices g more ks) (bytes_with_vertex g bytes k)

-- how many bytes its text has after the line of its version, without the lines of the vertices at these places
abbrev pub lines_without : EventGraph → Option ℕ → List ℕ → Option ℕ
lines_without g lines vertices = option_and_then
    (λ n. option_and_then (λ gone. cond (nat_le gone n) (Some (n - gone)) None) (bytes_with_vertices g 0 vertices))
    lines

-- whether it needs version 2 of a text, unless one of the vertices at these places has parts that do
abbrev pub version_without : EventGraph → Option Bool → List ℕ → Option Bool
version_without g version_two vertices = cond (list_any (λ k. has_later_parts (vertex_at g k)) vertices) None version_two

-- the lines of what each vertex does, where one vertex alone goes
abbrev pub bodies_after_drop : List (Option ℕ) → List ℕ → List (Option ℕ)
bodies_after_drop bodies (gone ∷ []) = remove bodies gone
bodies_after_drop bodies vertices = []
