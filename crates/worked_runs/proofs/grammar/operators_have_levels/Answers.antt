use Rattle.std.proofs.Common.{refl}
use Rattle.model_core.specs.Text.Expressions.{level_format}
use Rattle.text_laws.specs.FormatReader.{read_within, rule_at, many_within, many_at}
use Rattle.text_laws.specs.LanguageReader.{level_lookahead}
use Rattle.worked_runs.proofs.GrammarLaws.{is_spelled}
use Rattle.worked_runs.proofs.grammar.operators_have_levels.Goals as goal

pub returns : goal.returns
unfolding level_format read_within rule_at many_within many_at level_lookahead
returns c = record {
  differences = is_spelled refl;
  quotients = is_spelled refl;
  disjunctions = is_spelled refl;
  product_in_a_sum = is_spelled refl;
  sum_in_a_comparison = is_spelled refl;
  not_of_a_comparison = is_spelled refl;
  not_in_a_conjunction = is_spelled refl;
  conjunction_in_a_disjunction = is_spelled refl;
  minus_of_a_cell = is_spelled refl;
  else_goes_on = is_spelled refl;
}
