-- The variable at the place with the range that is left of it, or none.
use Rattle.std.proofs.Common.{◌≡◌, ◌<◌, ◌≤◌, length, slice_index_or, sym, ◌∙◌, ap, subst, List, arith}
use Rattle.std.proofs.lemmas.List.{get_or_read}
use Rattle.model_core.specs.declared.model.Var.{Var}
use Rattle.model_core.specs.EventGraph.{Variable}
use Rattle.model_core.specs.Rules.BoundsTable.{kind_bounds, variable_bounds}
use Rattle.model_core.specs.declared.var_range.VarRange.{VarRange}
use Rattle.model_core.specs.Ranges.OtherRanges.{no_range}
use Rattle.range_infer.proofs.VariablesOfModel.{ranged_found, ranged_past}
use Rattle.range_infer.proofs.bounds_left.variable_bounds.Goals as goal

pub returns-in-Some : goal.returns-in-Some
returns-in-Some c =
    let l = c.args.left.now in
    let found = c.in-Some.found.now in
    let v = c.args.var in
    let there = c.in-Some.ensures.lookup.3 in
    let small = subst (λ (vars : List Var). v < length vars) c.as_slice.ensures there.0 in
    let is = subst (λ (vars : List Var). found ≡ slice_index_or vars v found) c.as_slice.ensures (there.1 found) in
    let read = get_or_read l.ranges.items v c.index.result.now (omega (arith, small, l.many)) c.index.ensures no_range in
    c.kind_bounds.ensures ∙ (ap (λ (r : VarRange). kind_bounds found.kind r.lo r.hi c.args.quiet) read ∙ ap (λ (w : Variable). variable_bounds w c.args.quiet) (sym (ranged_found l.model.now.vars l.ranges.items l.many v found small is)))

pub returns-in-None : goal.returns-in-None
returns-in-None c =
    let l = c.args.left.now in
    let past = subst (λ (vars : List Var). length vars ≤ c.args.var) c.as_slice.ensures c.in-None.ensures.lookup.3 in
    c.number_bounds.ensures ∙ ap (λ (w : Variable). variable_bounds w c.args.quiet) (sym (ranged_past l.model.now.vars l.ranges.items l.many c.args.var past))
