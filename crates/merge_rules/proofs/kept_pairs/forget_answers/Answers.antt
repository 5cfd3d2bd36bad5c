use Rattle.std.proofs.Common.{◌∙◌, sym, ap, map}
use Rattle.std.proofs.lemmas.List.{map-id}
use Rattle.mark_laws.proofs.WrittenAnew.{one_written, all_written}
use Rattle.merge_rules.specs.Inner.PairMoves.{answer_forgotten}
use Rattle.merge_rules.proofs.kept_pairs.forget_answers.Goals as goal

pub loop-pair-preserved : goal.loop-pair-preserved
loop-pair-preserved c = one_written c.loop-pair.invariant _ _ c.loop-pair-test.true c.answer_forgotten.ensures

pub returns : goal.returns
returns c =
    sym (map-id _) ∙ all_written c.loop-pair.invariant _ _ c.loop-pair-test.false c.loop-pair.auto.pair-index-end c.args.pairs.now.ok.0 c.deref_mut-pair-items.ensures.value
    ∙ ap (map (answer_forgotten c.args.first)) (map-id c.args.pairs.now.items)
