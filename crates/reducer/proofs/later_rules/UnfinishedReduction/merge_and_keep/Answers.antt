-- The second one stays, and all vertices can be reached.
use Rattle.std.proofs.Common.{◌≡◌, List, ℕ, [], ◌∷◌, ◌++◌, map, ap, ap₂, sym, subst, ◌∙◌}
use Rattle.model_core.specs.EventGraph.{EventGraph}
use Rattle.model_core.specs.Text.Canonical.{vertex_name}
use Rattle.model_core.specs.Code.Views.{graph_of, application_of}
use Rattle.model_core.specs.Rules.Merge.{merged}
use Rattle.model_core.specs.Rules.Reduction.{Merge}
use Rattle.vertex_laws.proofs.MergedNames.{merged-named}
use Rattle.model_facts.specs.FactsOfModel.{FactsAreRight}
use Rattle.merge_rules.specs.KeptPairs.{PairsAreRight}
use Rattle.reducer.specs.Inner.LaterRules.{nothing_more}
use Rattle.reducer.proofs.ProgressAfterMerge.{progress-right}
use Rattle.reducer.proofs.later_rules.UnfinishedReduction.merge_and_keep.Goals as goal

pub returns : goal.returns
returns c =
    let g = graph_of c.args.self.now.model in
    let m = merged g c.args.first c.args.second in
    let done = c.in_ok-merge_holding.ensures.done in
    let named : (k : ℕ) → vertex_name (graph_of c.merge_holding.new.model) k ≡ vertex_name g k = λ k. ap (λ (h : EventGraph). vertex_name h k) done ∙ merged-named g c.args.first c.args.second k in
    let noted = c.in_ok-note_merge.ensures ∙ ap₂ (λ (name other : List ℕ). map application_of c.args.self.now.applications.items ++ Merge name other ∷ []) (named c.args.first) (named c.args.second) in
    record {
      left = nothing_more done noted;
      progress = progress-right m _ _ _ (subst (λ (h : EventGraph). FactsAreRight h c.merge_holding.new.facts) done c.merge_holding.ensures.facts) c.requires.merging.counts c.requires.all done;
      pairs = subst (λ (h : EventGraph). PairsAreRight h c.args.self.now.pairs) (sym done) c.requires.merging.pairs;
    }
