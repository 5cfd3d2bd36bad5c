-- Edges schedule no more events than there are edges.
use Rattle.std.proofs.Common.{◌≤◌, List, [], ◌∷◌, map, length, arith}
use Rattle.std.proofs.lemmas.List.{length-map}
use Rattle.model_core.specs.EventGraph.{EventEdge, EdgeKind, Schedule, Urgent, CancelNext, CancelEqual, CancelAll}
use Rattle.model_core.specs.Code.Views.{edge_of}
use Rattle.run_control.specs.Room.{schedules_one, scheduled_by}
use Rattle.run_control.proofs.room.make_room.Goals as goal

at_most_one : (kind : EdgeKind) → schedules_one kind ≤ 1
at_most_one (Schedule delay priority) = omega arith
at_most_one Urgent = omega arith
at_most_one CancelNext = omega arith
at_most_one CancelEqual = omega arith
at_most_one CancelAll = omega arith

scheduled_by-most : (es : List EventEdge) → scheduled_by es ≤ length es
scheduled_by-most [] = omega arith
scheduled_by-most (e ∷ es) = omega (arith, at_most_one e.kind, scheduled_by-most es)

pub returns-then-edges-spare-clause-reserved : goal.returns-then-edges-spare-clause-reserved
returns-then-edges-spare-clause-reserved g c = omega (arith, scheduled_by-most (map edge_of c.args.edges.now), length-map c.args.edges.now edge_of, c.if-edges-spare.true)
