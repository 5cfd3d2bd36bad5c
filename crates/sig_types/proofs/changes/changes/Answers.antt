use Rattle.std.proofs.Common.{map, arith}
use Rattle.std.proofs.lemmas.List.{map_push, take_all}
use Rattle.model_core.specs.Code.Views.{change_of}
use Rattle.model_core.specs.Code.WrittenViews.{written_change}
use Rattle.model_core.specs.Text.Numbering.{change}
use Rattle.model_core.specs.Static.Meanings.{meaning_of}
use Rattle.model_core.specs.Static.PartFaults.{change_faults}
use Rattle.static_laws.proofs.ListChecks.{turn}
use Rattle.sig_types.proofs.changes.changes.Goals as goal

pub loop-raw-preserved : goal.loop-raw-preserved
loop-raw-preserved c =
    let m = meaning_of c.args.names.now in
    turn m (change_faults m) change written_change _ _ _ c.args.raws.now c.loop-raw.raw-index c.raw-item.result (map change_of c.loop-raw.changes.items) _ (change_of c.in_ok-change.change) c.loop-raw-test.true c.raw-item.is (rw c.in_ok-push.ensures.items (map_push change_of c.loop-raw.changes.items c.in_ok-change.change)) c.loop-raw.invariant c.in_ok-change.ensures

pub returns : goal.returns
returns c = rw (c.from_vec.ensures, ← take_all c.loop-raw.raw-index c.args.raws.now (omega (arith, c.loop-raw-test.false))) c.loop-raw.invariant
