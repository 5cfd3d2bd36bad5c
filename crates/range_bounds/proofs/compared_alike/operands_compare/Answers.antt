-- The operand is the one on the left.
use Rattle.std.proofs.Common.{rules, ◌≡◌, ◌∙◌, ◌&&◌, false, Option, Some, sym, ap, ap₂}
use Rattle.std.specs.Option.{option_map_or}
use Rattle.model_core.specs.EventGraph.{Binary}
use Rattle.model_core.specs.Rules.BoundsTable.{fits}
use Rattle.model_core.specs.Rules.Exclusive.{same_expression, literal_number, Comparison, comparison_of}
use Rattle.model_core.specs.Code.Views.{expression_of, operator_of}
use Rattle.model_core.proofs.SignedBits.{signed_bits}
use Rattle.model_core.proofs.SameExpressions.{same_itself}
use Rattle.range_bounds.proofs.ExcludedByNumbers.{comparison_of-number, some_fits}
use Rattle.range_bounds.proofs.compared_alike.operands_compare.Goals as goal

pub returns : goal.returns
returns c =
    let left = expression_of c.args.left.now in
    let number = c.in_ok-number.number in
    let (short, within) = some_fits (literal_number (expression_of c.args.number.now)) number c.in_ok-number.ensures in
    let compared : comparison_of (Binary (operator_of c.args.op) (expression_of c.args.operand.now) (expression_of c.args.number.now)) ≡ Some (record { left = left; operator = operator_of c.args.op; number = number })
    = comparison_of-number _ _ _ _ _ (sym c.is_comparison.ensures ∙ c.if-not-is_comparison.false) (sym c.is_same.ensures ∙ c.if-not-is_same.false) short in
    record {
      is = search (rules, signed_bits);
      found = sym (ap (λ (o : Option Comparison). option_map_or (λ (c : Comparison). same_expression c.left left && fits c.number) o false) compared ∙ ap₂ (λ a b. a && b) (same_itself left) within);
    }
