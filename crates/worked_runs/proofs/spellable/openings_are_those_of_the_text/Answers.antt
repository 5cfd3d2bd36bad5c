use Rattle.std.proofs.Common.{refl}
use Rattle.std.specs.Fmt.{digits}
use Rattle.worked_runs.proofs.spellable.openings_are_those_of_the_text.Goals as goal

pub returns : goal.returns
unfolding digits
returns c = record {
  chains_group_to_the_left = refl;
  right_operand = refl;
  three = refl;
  negative_sum = refl;
  not_of_equal = refl;
  not_of_or = refl;
  call = refl;
  choice = refl;
  changes = refl;
  edges = refl;
}
