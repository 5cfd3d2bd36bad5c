use Rattle.std.proofs.Common.{refl}
use Rattle.model_core.specs.Text.Expressions.{level_format}
use Rattle.text_laws.specs.FormatReader.{read_within, rule_at, many_within, many_at}
use Rattle.text_laws.specs.LanguageReader.{level_lookahead}
use Rattle.worked_runs.proofs.GrammarLaws.{is_spelled}
use Rattle.worked_runs.proofs.grammar.expressions_have_places.Goals as goal

pub returns : goal.returns
unfolding level_format read_within rule_at many_within many_at level_lookahead
returns c = record {
  parentheses = is_spelled refl;
  group = is_spelled refl;
  group_after = is_spelled refl;
  call = is_spelled refl;
  truths = is_spelled refl;
}
