-- One more range is declared.
use Rattle.std.proofs.Common.{◌∙◌, sym, refl, ap, map}
use Rattle.std.proofs.lemmas.List.{length-set}
use Rattle.model_core.specs.declared.model.Var.{Var}
use Rattle.model_core.specs.Code.Views.{variable_of}
use Rattle.model_core.specs.Ranges.OtherRanges.{with_range, range_at}
use Rattle.range_infer.proofs.Declared.{with_none, one_declared}
use Rattle.range_infer.proofs.narrowing.declare_all.Goals as goal

pub loop-place-init : goal.loop-place-init
loop-place-init c = record { many = refl; value = sym (with_none (map variable_of c.args.vars.now.items)) }

pub loop-place-preserved : goal.loop-place-preserved
loop-place-preserved c =
    let place = c.loop-place.place in
    let new = c.declare.new.var in
    let old = c.index_mut.result.now in
    let range = range_at c.args.ranges.now place in
    let is = c.declare.ensures ∙ ap (λ (v : Var). with_range (variable_of v) range) c.index_mut.ensures.value in
    record {
      many = length-set c.loop-place.vars.items place new ∙ c.loop-place.invariant.many;
      value = one_declared c.args.vars.now.items c.loop-place.vars.items c.args.ranges.now place old new c.requires c.loop-place.invariant.many c.loop-place-test.true c.loop-place.invariant.value is;
    }
