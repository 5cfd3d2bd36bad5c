-- A pair is found at this vertex, or later, or nowhere.
use Rattle.std.proofs.Common.{◌∙◌, ◌<◌, sym, subst, length, arith}
use Rattle.model_core.specs.Rules.Merge.{merge_at, first_merge}
use Rattle.model_core.specs.Code.Views.{graph_of}
use Rattle.model_facts.specs.NothingCounted.{NothingCounted}
use Rattle.merge_rules.proofs.ConditionsAsked.PairsFound.{some_here, none_here}
use Rattle.merge_rules.proofs.kept_search.KeptPairs.first_single.Goals as goal

pub returns-then-is_some-clause-found : goal.returns-then-is_some-clause-found
returns-then-is_some-clause-found c =
    let g = graph_of c.args.model.now in
    let below : c.loop-first.first < length c.args.model.now.vertices = omega (arith, c.len-first-end.ensures, c.loop-first-test.true) in
    some_here (merge_at g) c.merge_at-found.result (first_merge g) c.loop-first.first (length c.args.model.now.vertices) below c.merge_at-found.ensures.found (sym c.is_some.ensures ∙ c.if-is_some.true) c.loop-first.invariant.sought

pub loop-first-preserved : goal.loop-first-preserved
loop-first-preserved c =
    let g = graph_of c.args.model.now in
    let below : c.loop-first.first < length c.args.model.now.vertices = omega (arith, c.len-first-end.ensures, c.loop-first-test.true) in
    record {
      sought = none_here (merge_at g) c.merge_at-found.result (first_merge g) c.loop-first.first (length c.args.model.now.vertices) below c.merge_at-found.ensures.found (sym c.is_some.ensures ∙ c.if-is_some.false) c.loop-first.invariant.sought;
      kept = c.merge_at-found.ensures.kept;
      facts = c.merge_at-found.ensures.facts;
      counts = subst (NothingCounted (length c.args.model.now.vars)) (sym c.merge_at-found.ensures.counts) c.loop-first.invariant.counts;
      same = c.merge_at-found.ensures.counts ∙ c.loop-first.invariant.same;
    }
