use Rattle.std.proofs.Common.{◌≡◌, drop}
use Rattle.model_core.specs.Code.Views.{graph_of}
use Rattle.model_facts.specs.FactsAfterDrop.{bytes_with_vertices}
use Rattle.model_facts.proofs.after_drop.lines_length.Given as goal

-- those of the rest are still to be added
abbrev pub invariant-loop-place : goal.invariant-loop-place
invariant-loop-place l = bytes_with_vertices (graph_of l.model) l.bytes (drop l.place-index l.vertices) ≡ bytes_with_vertices (graph_of l.model) 0 l.vertices
