-- All vertices can be reached then, and nothing is kept of what is left.
use Rattle.std.proofs.Common.{length, sym, subst}
use Rattle.model_core.specs.EventGraph.{EventGraph}
use Rattle.model_core.specs.Code.Views.{graph_of}
use Rattle.model_facts.specs.FactsOfModel.{FactsAreRight}
use Rattle.model_facts.specs.NothingCounted.{NothingCounted}
use Rattle.model_facts.specs.declared.progress.Progress.{Progress}
use Rattle.reducer.proofs.later_rules.UnfinishedReduction.find_and_drop.Goals as goal

pub returns-clause-by_rule : goal.returns-clause-by_rule
returns-clause-by_rule c =
    let g = graph_of c.args.self.now.model in
    let h = graph_of c.drop_listed.new.self.model in
    let left = c.in_ok-drop_listed.ensures.left in
    let same = c.drop_listed.ensures.progress in record {
      made = c.in_ok-drop_listed.ensures.made;
      progress = record {
        facts = subst (λ (h : EventGraph). FactsAreRight h c.keep_single_after_drop.new.self) (sym left) (c.keep_single_after_drop.ensures g _ (subst (λ (p : Progress). FactsAreRight g p.facts) (sym same) c.requires.progress.facts));
        counts = subst (λ (h : EventGraph). NothingCounted (length h.variables) c.drop_listed.new.self.progress.counts) (sym left)
            (subst (λ (p : Progress). NothingCounted (length g.variables) p.counts) (sym same) c.requires.progress.counts);
        reached = λ all. c.in_ok-drop_listed.ensures.all;
      };
      pairs = c.in_ok-self.ensures;
    }
