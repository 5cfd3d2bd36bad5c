use Rattle.std.proofs.Common.{◌∙◌, sym, ap, ℤ}
use Rattle.std.proofs.lemmas.Int.{to_z-of_z}
use Rattle.model_core.specs.Code.Views.{operator_of, variable_of}
use Rattle.model_core.specs.Ranges.Refined.{numbers_left}
use Rattle.range_infer.proofs.NumbersHeld.{range_held}
use Rattle.range_infer.proofs.numbers_left.where_holds.Goals as goal

pub returns-then-is_number_scalar : goal.returns-then-is_number_scalar
returns-then-is_number_scalar c =
    let same = to_z-of_z _ _ c.ranges.n in
    let low = c.numbers_left.ensures.lo ∙ ap (λ (n : ℤ). (numbers_left (operator_of c.args.op) n c.args.range).lo) same in
    let high = c.numbers_left.ensures.hi ∙ ap (λ (n : ℤ). (numbers_left (operator_of c.args.op) n c.args.range).hi) same in
    range_held (variable_of c.args.var.now) c.args.range c.unless_empty.result (numbers_left (operator_of c.args.op) c.args.n c.args.range) c.numbers_left.result.lo c.numbers_left.result.hi (sym c.is_number_scalar.ensures ∙ c.if-is_number_scalar.true) low high c.unless_empty.ensures.lo c.unless_empty.ensures.hi
