-- The priority of the edge, or none.
use Rattle.std.proofs.lemmas.Result.{on_ok_weaker}
use Rattle.model_core.specs.Code.Views.{edge_of}
use Rattle.conflict_report.proofs.PrioritiesHeld.{edge-held, edge-holds_none}
use Rattle.conflict_report.proofs.priorities.note_edge.Goals as goal

pub returns-in-Some : goal.returns-in-Some
returns-in-Some c =
    on_ok_weaker c.put.result (edge-held (edge_of c.args.edge.now) c.in-Some.priority c.from.result c.args.holders.now c.put.new.self c.in-Some.ensures c.from.ensures) c.put.ensures

pub returns-in-None : goal.returns-in-None
returns-in-None c = edge-holds_none (edge_of c.args.edge.now) c.args.holders.now c.in-None.ensures
