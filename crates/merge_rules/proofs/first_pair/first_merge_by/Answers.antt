-- A pair is found at this vertex, or later, or nowhere.
use Rattle.std.proofs.Common.{◌∙◌, ◌<◌, sym, ap, length, arith}
use Rattle.model_core.specs.Rules.Merge.{merge_at, first_merge}
use Rattle.model_core.specs.Code.Views.{graph_of}
use Rattle.merge_rules.proofs.ConditionsAsked.PairsFound.{some_here, none_here}
use Rattle.merge_rules.proofs.first_pair.first_merge_by.Goals as goal

pub returns-then-is_some-clause-found : goal.returns-then-is_some-clause-found
returns-then-is_some-clause-found t c =
    let g = graph_of c.args.model.now in
    let below : c.loop-first.first < length c.args.model.now.vertices = (let same = ap length c.as_slice-vertex-items.ensures in omega (arith, same, c.loop-first-test.true)) in
    some_here (merge_at g) c.merge_at-found.result (first_merge g) c.loop-first.first (length c.args.model.now.vertices) below c.merge_at-found.ensures.found (sym c.is_some.ensures ∙ c.if-is_some.true) c.loop-first.invariant.found

pub loop-first-preserved : goal.loop-first-preserved
loop-first-preserved t c =
    let g = graph_of c.args.model.now in
    let below : c.loop-first.first < length c.args.model.now.vertices = (let same = ap length c.as_slice-vertex-items.ensures in omega (arith, same, c.loop-first-test.true)) in
    record {
      found = none_here (merge_at g) c.merge_at-found.result (first_merge g) c.loop-first.first (length c.args.model.now.vertices) below c.merge_at-found.ensures.found (sym c.is_some.ensures ∙ c.if-is_some.false) c.loop-first.invariant.found;
      facts = c.merge_at-found.ensures.facts;
      same = c.merge_at-found.ensures.same ∙ c.loop-first.invariant.same;
    }
