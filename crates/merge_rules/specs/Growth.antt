-- By how much a merge of a vertex with the target of its plain urgent edge makes the canonical text longer: it gets the lines
-- of what the target does, and loses that of the edge.
use Rattle.std.specs.Prelude.{ℕ, cond, List, ◌++◌, length, Option, Some, None}
use Rattle.std.specs.List.{flat_map}
use Rattle.std.specs.Option.{option_map_or}
use Rattle.model_core.specs.EventGraph.{EventGraph, EventEdge}
use Rattle.model_core.specs.Run.Step.{vertex_at}
use Rattle.model_core.specs.Text.Canonical.{change_line, edge_line}
use Rattle.model_core.specs.Rules.UrgentEdges.{plain_urgent_edge}
use Rattle.model_core.specs.Rules.Merge.{set_parameters}
use Rattle.vertex_laws.specs.BodyLines.{body_lines}
use Rattle.model_facts.specs.KnownLengths.{capped}
use Rattle.merge_rules.specs.PairFits.{pair_fits}
use Rattle.merge_rules.specs.declared.growth.Growth.{Growth}
use Rattle.merge_rules.specs.declared.taking_over.SecondVertex.{SecondVertex}
use Rattle.merge_rules.specs.declared.taking_over.SecondVertex.TheVariants as seconds

-- the line by which the parameters of the target of this edge take the edge's values, where there are any
abbrev pub lines_set : EventGraph → EventEdge → List ℕ
lines_set g e = flat_map (change_line g) (set_parameters (vertex_at g e.target).parameters e.values)

-- the lines by which another vertex does what the target of this edge does once it has taken the edge's values
abbrev pub lines_taken_over : EventGraph → EventEdge → List ℕ
lines_taken_over g e = lines_set g e ++ body_lines g (vertex_at g e.target)

-- how many bytes the merge adds to the text, and how many it takes from it
abbrev pub bytes_added : EventGraph → ℕ → ℕ
bytes_added g first = option_map_or (λ e. length (lines_taken_over g e)) (plain_urgent_edge (vertex_at g first)) 0

-- how many of those give the parameters their values
abbrev pub bytes_set : EventGraph → ℕ → ℕ
bytes_set g first = option_map_or (λ e. length (lines_set g e)) (plain_urgent_edge (vertex_at g first)) 0

abbrev pub bytes_gone : EventGraph → ℕ → ℕ
bytes_gone g first = option_map_or (λ e. length (edge_line g e)) (plain_urgent_edge (vertex_at g first)) 0

-- both numbers
abbrev pub growth : EventGraph → ℕ → Growth
growth g first = record { added = capped (bytes_added g first); gone = capped (bytes_gone g first) }

-- how many of so many bytes of a second vertex's lines go with what it gives away
abbrev pub bytes_leaving : SecondVertex → ℕ → ℕ
bytes_leaving seconds.Stays body = 0
bytes_leaving seconds.GivesAway body = body

-- where the two fit
abbrev pub pair_growth : EventGraph → ℕ → Option Growth
pair_growth g first = cond (pair_fits g first) (Some (growth g first)) None
