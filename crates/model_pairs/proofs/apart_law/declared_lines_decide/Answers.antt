use Rattle.std.proofs.Common.{◌≡◌, sym, ◌∙◌, Option, Some, None}
use Rattle.model_pairs.specs.declared.line_pair.LinePair.{LinePair}
use Rattle.model_pairs.proofs.LinesDeclared.{none_declared, declared_none}
use Rattle.model_pairs.proofs.apart_law.declared_lines_decide.Goals as goal

pub returns-clause-none : goal.returns-clause-none
returns-clause-none c = none_declared

pub returns-clause-some : goal.returns-clause-some
returns-clause-some c = λ g h lines apart declared. let wrong : ◌≡◌ {A = Option LinePair} (Some lines) None = sym apart ∙ declared_none g h declared in cc
