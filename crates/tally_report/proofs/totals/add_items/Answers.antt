use Rattle.std.proofs.Common.{◌<◌, length, ◌∙◌, arith, get_or, None, ◌+◌}
use Rattle.std.specs.Prelude.{pos}
use Rattle.std.proofs.lemmas.List.{get_or_default}
use Rattle.tally_report.specs.declared.item.Item.TheVariants as items
use Rattle.tally_report.proofs.AddedItems.{added_more, added_all}
use Rattle.tally_report.proofs.totals.add_items.Goals as goal

pub loop-i-preserved : goal.loop-i-preserved
loop-i-preserved c =
    let xs = c.args.totals.now.items in
    let others = c.args.others.now in
    let i = c.loop-i.i in
    let first = items.Cell None (pos 0) in
    let within : i < length xs = omega (arith, c.loop-i-test.true, c.min-i-end.ensures, c.len.ensures, c.args.totals.now.ok.0) in
    let too : i < length others = omega (arith, c.loop-i-test.true, c.min-i-end.ensures) in
    added_more xs others c.loop-i.totals.items i (i + 1) c.index.result.now (get_or others i first) c.plus.result (omega arith) within too c.loop-i.invariant c.index.ensures
    (get_or_default others i first (get_or others i first) too) c.plus.ensures

pub returns : goal.returns
returns c =
    c.loop-i.invariant ∙ added_all c.args.totals.now.items c.args.others.now c.loop-i.i (omega (arith, c.loop-i-test.false, c.min-i-end.ensures, c.len.ensures, c.args.totals.now.ok.0))
