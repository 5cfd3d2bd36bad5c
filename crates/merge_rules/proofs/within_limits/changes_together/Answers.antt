-- All changes, those that set the parameters of the second, and the second's.
use Rattle.std.proofs.Common.{◌≡◌, ◌∙◌, ℕ, List, length, ap, arith}
use Rattle.std.proofs.lemmas.List.{length-map}
use Rattle.model_core.specs.Rules.Merge.{set_parameters, values_at_once}
use Rattle.model_core.specs.Code.Views.{vertex_of, change_of}
use Rattle.merge_rules.proofs.MergedText.LimitsTested.{changes_many}
use Rattle.merge_rules.proofs.within_limits.changes_together.Goals as goal

pub returns : goal.returns
returns c = λ place is.
    let values = values_at_once (vertex_of c.args.first.now) in
    let many = changes_many (vertex_of c.args.first.now) (vertex_of c.args.second.now) place is in
    let sets : c.set_count.result ≡ length (set_parameters c.args.second.now.params values) = c.set_count.ensures values ∙ ap (λ (params : List ℕ). length (set_parameters params values)) c.as_slice.ensures in
    let first = length-map c.args.first.now.changes change_of in
    let second = length-map c.args.second.now.changes change_of in
    omega (arith, many, sets, first, second, c.len.ensures, c.len-2.ensures, c.saturating_add.ensures, c.saturating_add-2.ensures)
