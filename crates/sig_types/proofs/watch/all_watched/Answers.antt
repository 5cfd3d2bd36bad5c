use Rattle.std.proofs.Common.{map, arith}
use Rattle.std.proofs.lemmas.List.{map_push, take_all}
use Rattle.model_core.specs.Code.Views.{watched_of}
use Rattle.model_core.specs.Code.WrittenViews.{written_name}
use Rattle.model_core.specs.Text.Numbering.{watched}
use Rattle.model_core.specs.Static.Meanings.{AsWatched, meaning_of}
use Rattle.model_core.specs.Static.PartFaults.{use_faults}
use Rattle.static_laws.proofs.ListChecks.{turn}
use Rattle.sig_types.proofs.watch.all_watched.Goals as goal

pub loop-raw-preserved : goal.loop-raw-preserved
loop-raw-preserved c =
    let m = meaning_of c.args.names.now in
    turn m (use_faults m AsWatched) watched written_name _ _ _ c.args.raws.now c.loop-raw.raw-index c.raw-item.result (map watched_of c.loop-raw.watch.items) _ (watched_of c.watched.result) c.loop-raw-test.true c.raw-item.is
    (rw c.in_ok-push.ensures.items (map_push watched_of c.loop-raw.watch.items c.watched.result)) c.loop-raw.invariant c.watched.ensures

pub returns : goal.returns
returns c = rw (c.from_vec.ensures, ← take_all c.loop-raw.raw-index c.args.raws.now (omega (arith, c.loop-raw-test.false))) c.loop-raw.invariant
