use Rattle.std.proofs.Common.{arith, ◌++◌, ◌∷◌, [], ap, sym, ◌∙◌, append_assoc, map}
use Rattle.std.specs.List.{range_with_len}
use Rattle.std.proofs.lemmas.List.FromFn.{map-range_with_len_more}
use Rattle.tally_report.specs.Inner.Sums.{cell_sum}
use Rattle.tally_report.proofs.sums.add_cells.Goals as goal

pub loop-index-preserved : goal.loop-index-preserved
loop-index-preserved c =
    c.in_ok-push.ensures.items ∙ ap (λ xs. xs ++ cell_sum c.args.place c.loop-index.index ∷ []) c.loop-index.invariant
    ∙ append_assoc c.args.sums.now.items (map (cell_sum c.args.place) (range_with_len 0 c.loop-index.index)) (cell_sum c.args.place c.loop-index.index ∷ [])
    ∙ ap (λ xs. c.args.sums.now.items ++ xs) (sym (map-range_with_len_more (cell_sum c.args.place) 0 c.loop-index.index c.loop-index.index (omega arith)))
