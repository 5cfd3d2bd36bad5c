-- All parts are good, or there are too few values.
use Rattle.std.proofs.Common.{arith}
use Rattle.std.proofs.lemmas.List.{length-map}
use Rattle.model_core.specs.Code.Views.{graph_of, variable_of}
use Rattle.snapshot_text.specs.Inner.RawParts.{written_value, written_snapshot}
use Rattle.snapshot_text.proofs.WholeSnapshots.{too_few, all_good, saved-is}
use Rattle.snapshot_text.proofs.judging.later_judged.Goals as goal

pub returns-then-len : goal.returns-then-len
returns-then-len c =
    let raw = c.args.raw.now in
    let t = rw c.as_slice.ensures at c.in_ok-taken.ensures in
    let v = rw c.as_slice-2.ensures at c.in_ok-values.ensures in
    let p = rw c.as_slice-3.ensures at c.in_ok-pending.ensures in
    too_few (graph_of c.args.model.now) (written_snapshot raw) t.0 v.0 c.in_ok-noted.ensures.0 p.0
    (omega (arith, c.if-len.true, c.len.ensures, c.len-2.ensures, length-map raw.values written_value, length-map c.args.model.now.vars variable_of))

pub returns : goal.returns
returns c =
    let raw = c.args.raw.now in
    let g = graph_of c.args.model.now in
    let w = written_snapshot raw in
    let t = rw c.as_slice.ensures at c.in_ok-taken.ensures in
    let v = rw c.as_slice-2.ensures at c.in_ok-values.ensures in
    let p = rw c.as_slice-3.ensures at c.in_ok-pending.ensures in (
      all_good g w t.0 v.0 c.in_ok-noted.ensures.0 p.0 (omega (arith, c.if-len.false, c.len.ensures, c.len-2.ensures, length-map raw.values written_value, length-map c.args.model.now.vars variable_of)),
      saved-is g w c.args.seed c.args.clock c.args.events _ _ _ _ t.1 v.1 c.in_ok-noted.ensures.1 p.1,
    )
