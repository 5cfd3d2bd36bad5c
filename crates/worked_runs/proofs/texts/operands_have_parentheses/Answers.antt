use Rattle.std.proofs.Common.{refl}
use Rattle.std.specs.Fmt.{digits}
use Rattle.worked_runs.proofs.texts.operands_have_parentheses.Goals as goal

pub returns : goal.returns
unfolding digits
returns c = record {
  chains_group_to_the_left = refl;
  right_operand = refl;
  sum_in_a_product = refl;
  product_in_a_sum = refl;
  negative_sum = refl;
  comparisons = refl;
  not_of_and = refl;
  and_of_not = refl;
  arguments = refl;
  index = refl;
  choice = refl;
}
