use Rattle.std.proofs.Common.{map, arith}
use Rattle.std.proofs.lemmas.List.{map_push, take_all}
use Rattle.model_core.specs.Code.Views.{edge_of}
use Rattle.model_core.specs.Code.WrittenViews.{written_edge}
use Rattle.model_core.specs.Text.Numbering.{edge}
use Rattle.model_core.specs.Static.Meanings.{meaning_of}
use Rattle.model_core.specs.Static.PartFaults.{edge_faults}
use Rattle.static_laws.proofs.ListChecks.{turn}
use Rattle.sig_types.proofs.edges.edges.Goals as goal

pub loop-raw-preserved : goal.loop-raw-preserved
loop-raw-preserved c =
    let m = meaning_of c.args.names.now in
    turn m (edge_faults m c.args.taken.now) edge written_edge _ _ _ c.args.raws.now c.loop-raw.raw-index c.raw-item.result (map edge_of c.loop-raw.edges.items) _ (edge_of c.in_ok-edge.edge) c.loop-raw-test.true c.raw-item.is (rw c.in_ok-push.ensures.items (map_push edge_of c.loop-raw.edges.items c.in_ok-edge.edge)) c.loop-raw.invariant c.in_ok-edge.ensures

pub returns : goal.returns
returns c = rw (c.from_vec.ensures, ← take_all c.loop-raw.raw-index c.args.raws.now (omega (arith, c.loop-raw-test.false))) c.loop-raw.invariant
