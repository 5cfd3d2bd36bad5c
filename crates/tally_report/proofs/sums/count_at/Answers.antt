use Rattle.std.proofs.Common.{arith, sym, ◌<◌, length, subst}
use Rattle.std.proofs.lemmas.List.Elements.{All-set}
use Rattle.tally_report.specs.Inner.Sums.{IsSmall}
use Rattle.tally_report.specs.Inner.Sums.{sum_on}
use Rattle.tally_report.specs.declared.sums.Sum.{Sum}
use Rattle.tally_report.proofs.MapsInPlace.{written_more, as_long}
use Rattle.tally_report.proofs.sums.count_at.Goals as goal

pub loop-i-preserved : goal.loop-i-preserved
loop-i-preserved c =
    let within : c.loop-i.i < length c.args.sums.now.items = omega (arith, c.loop-i-test.true, c.len-i-end.ensures, c.args.sums.now.ok.0) in
    let long = as_long (sum_on c.args.place) c.args.sums.now.items c.loop-i.sums.items c.loop-i.i c.index.result.now c.with_event.result within c.loop-i.invariant.0 c.index.ensures c.with_event.ensures.counted in (
      written_more (sum_on c.args.place) c.args.sums.now.items c.loop-i.sums.items c.loop-i.i c.index.result.now c.with_event.result within c.loop-i.invariant.0 c.index.ensures c.with_event.ensures.counted,
      λ ticks all. All-set (λ (s : Sum). IsSmall ticks s.item) c.loop-i.sums.items c.loop-i.i c.with_event.result
          (c.with_event.ensures.small ticks (subst (λ (s : Sum). IsSmall ticks s.item) (sym c.index.ensures) (c.loop-i.invariant.1 ticks all c.loop-i.i c.index.result.now (omega (arith, within, long)))))
          (c.loop-i.invariant.1 ticks all),
    )
