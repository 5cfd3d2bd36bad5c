use Rattle.std.proofs.Common.{map, take, rules, arith}
use Rattle.std.specs.Int.{w128}
use Rattle.std.proofs.lemmas.List.{map_push, map_more, take_all}
use Rattle.std.proofs.lemmas.Int.{to_z-of_z}
use Rattle.model_core.specs.Code.Views.{weighted_of}
use Rattle.model_core.specs.Code.WrittenViews.{written_row}
use Rattle.sig_types.proofs.RowSums.{row_turn, sum_turn, low_turn, high_turn}
use Rattle.sig_types.proofs.tables.rows.Goals as goal

pub loop-raw-preserved : goal.loop-raw-preserved
loop-raw-preserved c =
    let l = c.loop-raw in
    let more = map_more written_row c.args.raws.now l.raw-index _ c.loop-raw-test.true in
    rw (to_z-of_z w128 c.with_weight-sum.result (search rules))
    (record {
      checked = row_turn _ _ _ (map written_row (take l.raw-index c.args.raws.now)) _ _ _ (map weighted_of l.rows.items) _ (weighted_of c.row.result) more l.invariant.sum
          (rw c.in_ok-push.ensures.items (map_push weighted_of l.rows.items c.row.result)) l.invariant.checked c.row.ensures;
      sum = sum_turn (map written_row (take l.raw-index c.args.raws.now)) _ _ _ c.with_weight-sum.result more l.invariant.sum c.with_weight-sum.ensures.sum;
      low = low_turn l.raw-index _ _ l.invariant.low c.with_weight-sum.ensures.least;
      high = high_turn l.raw-index _ _ l.invariant.high c.with_weight-sum.ensures.most;
    })

pub returns : goal.returns
returns c = rw (c.from_vec.ensures, ← take_all c.loop-raw.raw-index c.args.raws.now (omega (arith, c.loop-raw-test.false))) c.loop-raw.invariant.checked
