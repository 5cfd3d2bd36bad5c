-- That of the beginning, and those of all edges.
use Rattle.std.proofs.Common.{map, ap}
use Rattle.model_core.specs.Code.Views.{graph_of, vertex_of}
use Rattle.conflict_report.proofs.PrioritiesHeld.{priorities-held}
use Rattle.conflict_report.proofs.priorities.holders_of_priorities.Goals as goal

pub returns : goal.returns
returns c =
    priorities-held (graph_of c.args.model.now) c.new-holders.result c.put.new.self c.note_vertices.new.holders c.from.result (map vertex_of c.as_slice.result.now) c.new-holders.ensures c.from.ensures (ap (map vertex_of) c.as_slice.ensures) c.in_ok-put.ensures c.in_ok-note_vertices.ensures
