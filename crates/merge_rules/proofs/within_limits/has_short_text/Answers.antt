use Rattle.std.proofs.Common.{◌-◌, ◌^◌, length, arith}
use Rattle.sig_base.specs.declared.limits.TheConstants.{TEXT_MAX}
use Rattle.model_core.specs.Text.Canonical.{canonical}
use Rattle.model_core.specs.Rules.Merge.{merged}
use Rattle.model_core.specs.Code.Views.{graph_of}
use Rattle.merge_rules.proofs.MergedText.LimitsTested.{capped_test}
use Rattle.merge_rules.proofs.within_limits.has_short_text.Goals as goal

pub returns : goal.returns
returns c = capped_test TEXT_MAX (2 ^ 64 - 1) (length (canonical (merged (graph_of c.args.model.now) c.args.first c.args.second))) c.merged_length.result (omega arith) c.merged_length.ensures
