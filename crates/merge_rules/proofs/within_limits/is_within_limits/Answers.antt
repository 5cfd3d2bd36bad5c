-- Few parts, and then a short text.
use Rattle.std.proofs.Common.{◌∙◌, ◌&&◌, nat_le, Bool, length, refl, sym, ap, ap₂}
use Rattle.sig_base.specs.declared.limits.TheConstants.{TEXT_MAX}
use Rattle.model_core.specs.Text.Canonical.{canonical}
use Rattle.model_core.specs.Rules.Merge.{merged}
use Rattle.model_core.specs.Code.Views.{graph_of}
use Rattle.merge_rules.proofs.MergedText.LimitsTested.{second_among}
use Rattle.merge_rules.proofs.within_limits.is_within_limits.Goals as goal

pub find_body-body-requires-clause-there : goal.find_body-body-requires-clause-there
find_body-body-requires-clause-there c = second_among c.args.model.now c.args.first c.args.second c.requires.holds c.args.model.now.vertices refl

pub returns-then-not-keeps_few_parts-clause-is : goal.returns-then-not-keeps_few_parts-clause-is
returns-then-not-keeps_few_parts-clause-is c =
    ap (λ (few : Bool). few && nat_le (length (canonical (merged (graph_of c.args.model.now) c.args.first c.args.second))) TEXT_MAX) (sym c.if-not-keeps_few_parts.true ∙ c.keeps_few_parts.ensures)

pub returns-clause-is : goal.returns-clause-is
returns-clause-is c = ap₂ (λ (few short : Bool). few && short) (sym c.if-not-keeps_few_parts.false ∙ c.keeps_few_parts.ensures) c.has_short_text.ensures
