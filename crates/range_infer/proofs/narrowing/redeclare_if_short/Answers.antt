-- The old ranges come back where the text would be too long.
use Rattle.std.proofs.Common.{◌^◌, ◌-◌, ◌∙◌, sym, ap, ap₂, map, length, cond, Bool, List, arith}
use Rattle.model_core.specs.declared.model.Var.{Var}
use Rattle.model_core.specs.EventGraph.{EventGraph}
use Rattle.model_core.specs.Code.Views.{graph_of, variable_of}
use Rattle.model_core.specs.Ranges.OtherRanges.{declared_range, model_with_ranges}
use Rattle.range_infer.proofs.Declared.{as_many_again, undone, is_short, is_long}
use Rattle.range_infer.proofs.narrowing.redeclare_if_short.Goals as goal

pub redeclare-requires-2 : goal.redeclare-requires-2
redeclare-requires-2 c =
    let old = c.in_ok-old.ensures ∙ ap (λ (vars : List Var). map declared_range (map variable_of vars)) c.as_slice.ensures in
    ap length c.as_slice-2.ensures.value ∙ as_many_again c.args.model.now.vars c.redeclare.new.model.vars c.args.ranges.now c.in_ok-old.old.items old (ap (λ (g : EventGraph). g.variables) c.redeclare.ensures)

pub returns-then-printed_length-clause-model : goal.returns-then-printed_length-clause-model
returns-then-printed_length-clause-model c =
    let g = graph_of c.args.model.now in
    let h = model_with_ranges g c.args.ranges.now in
    let short = is_short (graph_of c.redeclare.new.model) h c.redeclare.ensures (2 ^ 64 - 1) c.printed_length.result c.printed_length.ensures (omega arith) c.if-printed_length.true in
    c.redeclare.ensures ∙ sym (ap (λ (b : Bool). cond b h g) short)

pub returns-clause-model : goal.returns-clause-model
returns-clause-model c =
    let g = graph_of c.args.model.now in
    let h = model_with_ranges g c.args.ranges.now in
    let old = c.as_slice-2.ensures.value ∙ (c.in_ok-old.ensures ∙ ap (λ (vars : List Var). map declared_range (map variable_of vars)) c.as_slice.ensures) in
    let back = c.redeclare-2.ensures ∙ (ap₂ model_with_ranges c.redeclare.ensures old ∙ undone g c.args.ranges.now) in
    let long = is_long (graph_of c.redeclare.new.model) h c.redeclare.ensures (2 ^ 64 - 1) c.printed_length.result c.printed_length.ensures (omega arith) c.if-printed_length.false in
    back ∙ sym (ap (λ (b : Bool). cond b h g) long)
