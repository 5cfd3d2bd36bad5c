-- One more that fits.
use Rattle.std.proofs.Common.{◌≡◌, ◌<◌, length, ◌∙◌, sym, ap₂, subst, Bool, List, below_more, slice_index_or}
use Rattle.model_core.specs.declared.model.Var.{Var}
use Rattle.model_core.specs.EventGraph.{Variable}
use Rattle.model_core.specs.Code.Views.{graph_of}
use Rattle.model_core.specs.Ranges.OtherRanges.{range_at}
use Rattle.range_infer.specs.Inner.RangeTests.{range_fits}
use Rattle.range_infer.proofs.FittingTests.{range_fits-fits, variable_there}
use Rattle.range_infer.proofs.fitting.are_fitting.Goals as goal

pub loop-place-preserved : goal.loop-place-preserved
loop-place-preserved c =
    let v = c.loop-place.place in
    let found = c.index-vars-place.result in
    let r = range_at c.args.ranges.now v in
    let small = subst (λ (vars : List Var). v < length vars) c.as_slice-vars.ensures c.loop-place-test.true in
    let is = subst (λ (vars : List Var). found ≡ slice_index_or vars v found) c.as_slice-vars.ensures c.index-vars-place.is in
    let fits = sym (ap₂ (λ (b : Bool) (w : Variable). range_fits b w r) c.is_fixed.ensures (sym (variable_there c.args.model.now.vars v found small is))) ∙ (sym c.range_fits.ensures ∙ c.if-not-range_fits.false) in
    below_more _ _ c.loop-place.invariant (range_fits-fits (graph_of c.args.model.now) v r fits)
