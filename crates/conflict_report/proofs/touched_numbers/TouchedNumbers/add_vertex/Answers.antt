-- What each part of the vertex adds.
use Rattle.std.proofs.Common.{map, ap}
use Rattle.std.proofs.lemmas.Result.{on_ok_weaker}
use Rattle.model_core.specs.Code.Views.{change_of, edge_of, vertex_of}
use Rattle.conflict_report.proofs.ListsTouched.{vertex-touched}
use Rattle.conflict_report.proofs.touched_numbers.TouchedNumbers.add_vertex.Goals as goal

pub returns : goal.returns
returns c =
    on_ok_weaker c.add_edges.result
    (vertex-touched c.args.place (vertex_of c.args.vertex.now) c.args.self.now _ c.add_changes.new.self c.add_edges.new.self c.add_vertex_reads.new.out.items c.add_vertex_writes.new.out.items c.push.new.self.items (map change_of c.as_slice.result.now) (map edge_of c.as_slice-2.result.now)
    c.self.view_is c.in_ok-add_vertex_reads.ensures c.in_ok-add_vertex_writes.ensures c.in_ok-push.ensures.items (ap (map change_of) c.as_slice.ensures) c.in_ok-add_changes.ensures (ap (map edge_of) c.as_slice-2.ensures))
    c.add_edges.ensures
