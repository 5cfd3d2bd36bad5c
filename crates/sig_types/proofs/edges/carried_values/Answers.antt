use Rattle.std.proofs.Common.{◌≡◌, [], Some, None, ap, sym, ◌∙◌, length, map}
use Rattle.std.specs.Option.{option_map}
use Rattle.std.proofs.lemmas.List.{length-map}
use Rattle.std.proofs.lemmas.Result.{IfOk-weaker}
use Rattle.model_core.specs.Code.Views.{expression_of}
use Rattle.model_core.specs.Code.WrittenViews.{written_expression, written_edge}
use Rattle.model_core.specs.Static.Meanings.{meaning_of}
use Rattle.model_core.specs.Static.PartFaults.{written_items, count_faults}
use Rattle.static_laws.proofs.Checks.{after_faults}
use Rattle.static_laws.proofs.LeftOut.{map-items}
use Rattle.sig_types.specs.Inner.Stored.{taken_by}
use Rattle.sig_types.proofs.EdgeParts.{values_left_out}
use Rattle.sig_types.proofs.edges.carried_values.Goals as goal

pub returns-in-None : goal.returns-in-None
returns-in-None c =
    let e = written_edge c.args.raw.now in
    let none : taken_by c.args.taken.now c.args.target ≡ None = sym c.taken_at.ensures ∙ ap (option_map _) c.in-None.is in
    rw none
    (IfOk-weaker c.values.result _ _ (λ es. values_left_out (meaning_of c.args.names.now) c.args.taken.now c.args.fault.now c.values.new.fault [] e.values (map expression_of es))
    (rw (c.items-raws.ensures, map-items written_expression c.args.raw.now.values) at c.values.ensures))

pub returns-in-Some : goal.returns-in-Some
returns-in-Some c =
    let e = written_edge c.args.raw.now in
    let kinds = c.in-Some.kinds.now in
    let some : taken_by c.args.taken.now c.args.target ≡ Some kinds = sym c.taken_at.ensures ∙ ap (option_map _) c.in-Some.is in
    let given : length (written_items e.values) ≡ length (written_items c.args.raw.now.values) = rw (← map-items written_expression c.args.raw.now.values) (simp length-map) in
    let counted = rw (c.as_slice-kinds.ensures, c.items-raws.ensures, ← given) at c.report_value_count.ensures in
    rw some
    (IfOk-weaker c.values-in-Some.result _ _
    (λ es checked. after_faults c.args.fault.now (count_faults e.kind (length kinds) (length (written_items e.values)) e.target.at) counted
    (values_left_out (meaning_of c.args.names.now) c.args.taken.now c.report_value_count.new.fault c.values-in-Some.new.fault kinds e.values (map expression_of es) checked))
    (rw (c.as_slice-kinds.ensures, c.items-raws.ensures, map-items written_expression c.args.raw.now.values) at c.values-in-Some.ensures))
