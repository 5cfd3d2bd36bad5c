use Rattle.std.proofs.Common.{sym, ap, ◌∙◌, arith, map, drop, length}
use Rattle.model_core.specs.Run.Changes.{make_change}
use Rattle.model_core.specs.Run.LeftByFaults.{left_by_change}
use Rattle.model_core.specs.Code.Views.{graph_of, change_of}
use Rattle.sig_expr.specs.Possible.{PossibleChange}
use Rattle.sig_base.proofs.Lists.{holds_of_each, remaining_more}
use Rattle.run_laws.proofs.MadeSoFar.{made_more}
use Rattle.sig_expr.proofs.changes.apply.Goals as goal

pub make-requires-clause-possible : goal.make-requires-clause-possible
make-requires-clause-possible c =
    holds_of_each (PossibleChange (graph_of c.args.model.now)) change_of c.args.changes.now c.loop-change.change-index c.change-item.result c.requires.possible (omega (arith, ap length c.as_slice-change-items.ensures)) (rw c.as_slice-change-items.ensures at c.change-item.is)

pub loop-change-preserved : goal.loop-change-preserved
loop-change-preserved c =
    let g = graph_of c.args.model.now in
    let before = c.loop-change.invariant in
    let makes = sym (rw (before.seed, c.in_ok-make.was) at c.make.ensures.makes) in
    record {
      made = made_more (make_change g c.args.streams.now.seed c.args.clk) (left_by_change g c.args.streams.now.seed c.args.clk) (map change_of c.args.changes.now) _ (map change_of (drop c.loop-change.change-index c.args.changes.now)) _ (change_of c.change-item.result) _ _
          (remaining_more change_of c.args.changes.now c.loop-change.change-index c.change-item.result (omega (arith, ap length c.as_slice-change-items.ensures)) (rw c.as_slice-change-items.ensures at c.change-item.is)) makes before.made;
      inside = c.make.ensures.stays_in_range;
      seed = c.make.ensures.seed ∙ before.seed;
      countable = λ stream. omega (arith, before.countable stream, c.make.ensures.counted stream);
    }
