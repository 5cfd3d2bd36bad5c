-- The text without the edge and the lines of the second are the result's text.
use Rattle.std.proofs.Common.{◌≡◌, ◌∙◌, ◌-◌, ◌^◌, ◌+◌, length, min, ap, ap₂, arith}
use Rattle.model_core.specs.Text.Canonical.{canonical}
use Rattle.model_core.specs.Rules.Merge.{merged}
use Rattle.model_core.specs.Code.Views.{graph_of}
use Rattle.merge_rules.specs.Growth.{bytes_added, bytes_gone}
use Rattle.merge_rules.specs.declared.growth.Growth.{Growth}
use Rattle.merge_rules.proofs.MergedText.LimitsTested.{capped_sum, text_grown, gone_within}
use Rattle.merge_rules.proofs.within_limits.merged_length.Goals as goal

pub length_without-requires-clause-gone : goal.length_without-requires-clause-gone
length_without-requires-clause-gone c = ap (λ (x : Growth). x.gone) c.requires.grows

pub returns : goal.returns
returns c =
    let g = graph_of c.args.model.now in
    let grown = text_grown g c.args.first c.args.second c.requires.holds in
    let within = gone_within g c.args.first c.args.second c.requires.holds in
    let whole : length (canonical (merged g c.args.first c.args.second)) ≡ (length (canonical g) - bytes_gone g c.args.first) + bytes_added g c.args.first = omega (arith, grown, within) in
    c.saturating_add.ensures
    ∙ ap₂ (λ x y. min (x + y) (2 ^ 64 - 1)) c.length_without.ensures (ap (λ (x : Growth). x.added) c.requires.grows)
    ∙ capped_sum (2 ^ 64 - 1) (length (canonical g) - bytes_gone g c.args.first) (bytes_added g c.args.first) (length (canonical (merged g c.args.first c.args.second))) whole
