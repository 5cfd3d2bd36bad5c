-- A value whose postfix form isn't empty is long.
use Rattle.std.proofs.Common.{sym, ◌∙◌}
use Rattle.std.proofs.lemmas.Result.{IfOk-weaker}
use Rattle.model_core.specs.Code.Views.{expression_of}
use Rattle.range_infer.proofs.LongValues.{long_has}
use Rattle.range_infer.proofs.postfix_bounds.value_bounds.Goals as goal

pub returns-else-is_empty-clause-bounds : goal.returns-else-is_empty-clause-bounds
returns-else-is_empty-clause-bounds c = IfOk-weaker c.bounds_of_items.result _ _ (λ b found.
    found (expression_of c.args.value.now) (long_has (expression_of c.args.value.now) c.args.items.now c.requires (sym c.is_empty.ensures ∙ c.if-is_empty.false))) c.bounds_of_items.ensures.bounds
