use Rattle.std.proofs.Common.{refl, append_assoc, rules}
use Rattle.std.specs.Int.{w64, w128}
use Rattle.std.proofs.lemmas.Int.{to_z-of_z}
use Rattle.model_core.specs.Code.WrittenViews.{written_row}
use Rattle.model_core.specs.Static.RuleTable.{literal_too_large, number_too_large, weight_outside}
use Rattle.static_laws.proofs.Checks.{both, made}
use Rattle.sig_types.proofs.tables.row.Goals as goal

pub returns : goal.returns
returns c =
    let r = written_row c.args.raw.now in
    let weight = rw (to_z-of_z w128 c.args.before (search rules)) at c.weight-weight.ensures in
    rw (to_z-of_z w64 c.literal-value.result (search rules), append_assoc (literal_too_large r.value) (number_too_large r.weight) (weight_outside c.args.before r.weight)) (made (λ h. rw (h.0, h.1) refl) (both c.literal-value.ensures weight))
