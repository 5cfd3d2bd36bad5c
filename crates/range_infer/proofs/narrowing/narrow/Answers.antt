-- What the check of ranges said, and whether the text was short.
use Rattle.std.proofs.Common.{subst, arith}
use Rattle.std.proofs.lemmas.Grind.{common_steps}
use Rattle.model_core.specs.Code.Views.{graph_of}
use Rattle.model_core.specs.Ranges.Inductive.{Fitting, Inductive}
use Rattle.range_infer.specs.RangeVerdicts.{FailsFirst, VerdictHolds, unfit, left}
use Rattle.range_infer.proofs.Declared.{fails_not_inductive, may_narrow, no_room}
use Rattle.range_infer.proofs.narrowing.narrow.Goals as goal

pub returns-in-Unfit-clause-refused : goal.returns-in-Unfit-clause-refused
returns-in-Unfit-clause-refused c =
    unfit (subst (VerdictHolds (graph_of c.args.model.now) c.args.ranges.now) c.in-Unfit.is c.in_ok-check_ranges.ensures)

pub returns-in-Fails-clause-refused : goal.returns-in-Fails-clause-refused
returns-in-Fails-clause-refused c =
    let g = graph_of c.args.model.now in
    let fails : FailsFirst g c.args.ranges.now c.in-Fails.var = subst (VerdictHolds g c.args.ranges.now) c.in-Fails.is c.in_ok-check_ranges.ensures in
    left fails.fitting (fails_not_inductive g c.args.ranges.now c.in-Fails.var fails)

pub returns-then-branch-clause-done : goal.returns-then-branch-clause-done
returns-then-branch-clause-done c =
    let g = graph_of c.args.model.now in
    let both : Fitting g c.args.ranges.now × Inductive g c.args.ranges.now = subst (VerdictHolds g c.args.ranges.now) c.in-Inductive.is c.in_ok-check_ranges.ensures in
    let made = c.in_ok-redeclare_if_short.ensures in
    may_narrow g (graph_of c.redeclare_if_short.new.model) c.args.ranges.now c.as_slice.result.now both.0 both.1 c.as_slice.ensures c.in_ok-redeclare_if_short.field-0 made.value made.model c.if-branch.true

pub returns-else-branch-clause-refused : goal.returns-else-branch-clause-refused
returns-else-branch-clause-refused c =
    let g = graph_of c.args.model.now in
    let both : Fitting g c.args.ranges.now × Inductive g c.args.ranges.now = subst (VerdictHolds g c.args.ranges.now) c.in-Inductive.is c.in_ok-check_ranges.ensures in
    no_room g (graph_of c.redeclare_if_short.new.model) c.args.ranges.now c.as_slice.result.now both.0 both.1 c.as_slice.ensures c.in_ok-redeclare_if_short.field-0 c.in_ok-redeclare_if_short.ensures.value c.if-branch.false

pub returns-in_err-check_ranges-clause-refused : goal.returns-in_err-check_ranges-clause-refused
returns-in_err-check_ranges-clause-refused c = grind (arith, common_steps)

pub returns-in_err-redeclare_if_short-clause-refused : goal.returns-in_err-redeclare_if_short-clause-refused
returns-in_err-redeclare_if_short-clause-refused c = grind (arith, common_steps)

pub returns-in_err-redeclare_if_short-clause-unchanged : goal.returns-in_err-redeclare_if_short-clause-unchanged
returns-in_err-redeclare_if_short-clause-unchanged c = grind (arith, common_steps)
