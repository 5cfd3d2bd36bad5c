-- A graph in which what one vertex does has fewer bytes than in another graph.
use Rattle.std.specs.Prelude.{◌≡◌, ℕ, ◌+◌, ◌==◌, false, length}
use Rattle.model_core.specs.EventGraph.{EventGraph}
use Rattle.model_core.specs.Run.Step.{vertex_at}
use Rattle.model_core.specs.Text.Canonical.{version_line, canonical}
use Rattle.model_core.specs.Text.VersionNeeded.{needs_version_two}
use Rattle.vertex_laws.specs.BodyLines.{body_lines}

-- the canonical text after the line of its version has so many bytes less, and so have the lines of the changes and edges of
-- the vertex at a place; those of the others are the same
pub record HasFewerBytes (g h : EventGraph) (vertex gone : ℕ) : Type 0 where
  pub text : length (canonical h) + length (version_line (needs_version_two g)) + gone ≡ length (canonical g) + length (version_line (needs_version_two h))
  pub body : length (body_lines h (vertex_at h vertex)) + gone ≡ length (body_lines g (vertex_at g vertex))
  pub others : (k : ℕ) → (k == vertex) ≡ false → body_lines h (vertex_at h k) ≡ body_lines g (vertex_at g k)
