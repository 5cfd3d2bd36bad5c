-- What is left beside an operator is by its guard. A conditional puts back what its condition replaced, where it holds and where it doesn't.
use Rattle.std.proofs.Common.{◌≡◌, length, sym, ap, ◌∙◌, arith}
use Rattle.std.proofs.lemmas.Result.{on_ok_weaker}
use Rattle.model_core.specs.Code.Views.{expression_of, operator_of}
use Rattle.model_core.specs.Ranges.Refined.{refined}
use Rattle.range_infer.specs.Inner.RangesLeft.{variables_left}
use Rattle.range_infer.proofs.GuardsBeside.{beside-no_guard, beside-guard}
use Rattle.range_infer.proofs.RestoredRanges.{same_variables, stays-trans, stays-back, back-trans}
use Rattle.range_infer.proofs.bounds_left.+bounds_left.Goals as goal

pub bounds_beside-returns-in-None-clause-left : goal.bounds_beside-returns-in-None-clause-left
bounds_beside-returns-in-None-clause-left t c =
    let first = c.args.left.now in
    on_ok_weaker c.operand_left.result
    (λ stays. same_variables first c.operand_left.new.left stays ∙ sym (beside-no_guard (operator_of c.args.op) (expression_of c.args.first.now) (variables_left first) (sym c.guard_of.ensures ∙ c.in-None.is)))
    c.operand_left.ensures.left

pub bounds_beside-returns-in-Some-clause-left : goal.bounds_beside-returns-in-Some-clause-left
bounds_beside-returns-in-Some-clause-left t c =
    on_ok_weaker c.bounds_where.result
    (λ is. is ∙ sym (beside-guard (operator_of c.args.op) c.in-Some.value (expression_of c.args.first.now) (variables_left c.args.left.now) (sym c.guard_of.ensures ∙ c.in-Some.is)))
    c.bounds_where.ensures.left

pub any_bounds_left-returns-in_ok-b-in-If-clause-left : goal.any_bounds_left-returns-in_ok-b-in-If-clause-left
any_bounds_left-returns-in_ok-b-in-If-clause-left t c =
    let first = c.args.left.now in
    let many : c.len-replaced-in-If.result ≡ length first.replaced.items = omega (arith, c.len-replaced-in-If.ensures, first.replaced.ok.0) in
    let yes = c.in_ok-a-in-If.ensures.left first many c.in_ok-c-in-If.ensures.back in
    let no = back-trans first c.last_bounds-in-If.new.left c.refine.new.left (stays-back first c.last_bounds-in-If.new.left yes) c.in_ok-refine-in-If.ensures.back in
    c.in_ok-b-in-If.ensures.left first many no

pub any_bounds_left-returns-in_ok-b-in-Binary-clause-left : goal.any_bounds_left-returns-in_ok-b-in-Binary-clause-left
any_bounds_left-returns-in_ok-b-in-Binary-clause-left t c =
    let first = c.args.left.now in
    let many : c.len-replaced.result ≡ length first.replaced.items = omega (arith, c.len-replaced.ensures, first.replaced.ok.0) in
    c.in_ok-b-in-Binary.ensures.left first many c.in_ok-a-in-Binary.ensures.back

pub bounds_left-returns-then-stays_beside-clause-left : goal.bounds_left-returns-then-stays_beside-clause-left
bounds_left-returns-then-stays_beside-clause-left t c = stays-trans c.args.left.now c.operand_left.new.left c.operand_left-then-stays_beside.new.left c.in_ok-a.ensures.left c.in_ok-b.ensures.left

pub bounds_where-returns-clause-back : goal.bounds_where-returns-clause-back
bounds_where-returns-clause-back t c = back-trans c.args.left.now c.bounds_left.new.left c.refine.new.left (stays-back c.args.left.now c.bounds_left.new.left c.in_ok-bounds.ensures.left) c.in_ok-refine.ensures.back

pub bounds_where-returns-clause-left : goal.bounds_where-returns-clause-left
bounds_where-returns-clause-left t c = c.in_ok-refine.ensures.left ∙ ap (refined (expression_of c.args.expr.now) c.args.value) (same_variables c.args.left.now c.bounds_left.new.left c.in_ok-bounds.ensures.left)

pub bounds_where-returns-then-refines_both-clause-back : goal.bounds_where-returns-then-refines_both-clause-back
bounds_where-returns-then-refines_both-clause-back t c = back-trans c.args.left.now c.bounds_where.new.left c.bounds_where-then-refines_both.new.left c.in_ok-a.ensures.back c.in_ok-b.ensures.back
