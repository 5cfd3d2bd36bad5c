-- Each number loses its stamp.
use Rattle.std.proofs.Common.{◌∙◌, ap, sym, map, refl}
use Rattle.std.proofs.lemmas.List.{map-id}
use Rattle.use_analysis.specs.Inner.Moving.{without_stamp}
use Rattle.mark_laws.proofs.WrittenAnew.{one_written, all_written}
use Rattle.use_analysis.proofs.counts.clear_stamps.Goals as goal

pub loop-number-preserved : goal.loop-number-preserved
loop-number-preserved c = one_written c.loop-number.invariant (record { number = 0; stamp = 0 }) _ c.loop-number-test.true refl

pub returns : goal.returns
returns c =
    sym (map-id _)
    ∙ all_written c.loop-number.invariant _ _ c.loop-number-test.false c.loop-number.auto.number-index-end c.args.numbers.now.ok.0 c.deref_mut-number-items.ensures.value
    ∙ ap (map without_stamp) (map-id _)
