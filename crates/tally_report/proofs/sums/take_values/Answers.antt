use Rattle.std.proofs.Common.{arith, map, ◌<◌, All, length, subst, ◌≡◌}
use Rattle.std.proofs.lemmas.List.{take_all}
use Rattle.model_core.specs.Run.History.{watched_values}
use Rattle.model_core.specs.Code.Views.{graph_of, watched_of}
use Rattle.tally_report.specs.Inner.Sums.{IsSmall}
use Rattle.tally_report.specs.Inner.Sums.{sum_at}
use Rattle.tally_report.specs.declared.sums.Sum.{Sum}
use Rattle.tally_report.proofs.MapsInPlace.{all-written, written_more, All-written_more}
use Rattle.tally_report.proofs.sums.take_values.Goals as goal

pub loop-i-preserved : goal.loop-i-preserved
loop-i-preserved c =
    let within : c.loop-i.i < length c.args.sums.now.items = omega (arith, c.loop-i-test.true, c.len-i-end.ensures, c.args.sums.now.ok.0) in
    let f = sum_at (graph_of c.args.model.now) (watched_values (map watched_of c.args.model.now.watch) c.args.state.now) c.args.since c.args.time in (
      written_more f c.args.sums.now.items c.loop-i.sums.items c.loop-i.i c.index.result.now c.with_noted_value.result within c.loop-i.invariant.0 c.index.ensures c.with_noted_value.ensures.taken,
      All-written_more f c.args.sums.now.items c.loop-i.sums.items c.loop-i.i c.index.result.now c.with_noted_value.result within c.loop-i.invariant.0 c.index.ensures c.with_noted_value.ensures.taken
          (λ (s : Sum). IsSmall c.args.time s.item) c.loop-i.invariant.1 c.with_noted_value.ensures.small,
    )

pub returns-clause-small : goal.returns-clause-small
returns-clause-small c =
    let long : length c.loop-i.sums.items ≡ length c.args.sums.now.items = all-written _ c.args.sums.now.items c.loop-i.sums.items c.loop-i.i c.loop-i.invariant.0 in
    subst (All (λ (s : Sum). IsSmall c.args.time s.item)) (take_all c.loop-i.i c.loop-i.sums.items (omega (arith, c.loop-i-test.false, c.len-i-end.ensures, c.args.sums.now.ok.0, long))) c.loop-i.invariant.1
