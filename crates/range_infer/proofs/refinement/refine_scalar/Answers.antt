-- The variable at the place takes what is left of its range, or there is none.
use Rattle.std.proofs.Common.{◌≡◌, ◌<◌, ◌≤◌, length, slice_index_or, refl, ◌∙◌, ap, subst, ℤ, Some, List, arith}
use Rattle.std.proofs.lemmas.Int.{to_z-of_z}
use Rattle.std.proofs.lemmas.List.{get_or_read}
use Rattle.model_core.specs.declared.model.Var.{Var}
use Rattle.model_core.specs.Code.Views.{operator_of, variable_of}
use Rattle.model_core.specs.declared.var_range.VarRange.{VarRange}
use Rattle.model_core.specs.Ranges.OtherRanges.{with_range, no_range}
use Rattle.model_core.specs.Ranges.Refined.{where_holds}
use Rattle.range_infer.proofs.RestoredRanges.{one_replaced}
use Rattle.range_infer.proofs.VariablesOfModel.{refined_found, refined_past}
use Rattle.range_infer.proofs.refinement.refine_scalar.Goals as goal

pub returns-in_ok-push-clause-left : goal.returns-in_ok-push-clause-left
returns-in_ok-push-clause-left c =
    let l = c.args.left.now in
    let found = c.in-Some.found.now in
    let op = operator_of c.args.op in
    let v = c.args.var in
    let there = c.in-Some.ensures.lookup.3 in
    let small = subst (λ (vars : List Var). v < length vars) c.as_slice.ensures there.0 in
    let is = subst (λ (vars : List Var). found ≡ slice_index_or vars v found) c.as_slice.ensures (there.1 found) in
    let read = get_or_read l.ranges.items v c.index-range.result.now (omega (arith, small, l.many)) c.index-range.ensures no_range in
    let holds = c.where_holds.ensures ∙ (ap (λ (n : ℤ). where_holds op (Some n) (with_range (variable_of found) c.index-range.result.now)) (to_z-of_z _ _ c.ranges.n) ∙ ap (λ (r : VarRange). where_holds op (Some c.args.n) (with_range (variable_of found) r)) read) in
    refined_found l.model.now.vars l.ranges.items l.many v found small is c.where_holds.result (where_holds op (Some c.args.n)) holds

pub returns-in_ok-push-clause-back : goal.returns-in_ok-push-clause-back
returns-in_ok-push-clause-back c =
    let l = c.args.left.now in
    let v = c.args.var in
    let there = c.in-Some.ensures.lookup.3 in
    let small = subst (λ (vars : List Var). v < length vars) c.as_slice.ensures there.0 in
    let read = get_or_read l.ranges.items v c.index-range.result.now (omega (arith, small, l.many)) c.index-range.ensures no_range in
    one_replaced l _ (record { var = v; range = c.index-range.result.now }) c.where_holds.result no_range refl c.in_ok-push.ensures.items refl read

pub returns-in_default-clause-left : goal.returns-in_default-clause-left
returns-in_default-clause-left c =
    let l = c.args.left.now in
    let past = subst (λ (vars : List Var). length vars ≤ c.args.var) c.as_slice.ensures c.in_default.ensures.lookup.3 in
    refined_past l.model.now.vars l.ranges.items l.many c.args.var _ past
