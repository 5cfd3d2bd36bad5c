-- Merged and noted are the first two that can be, if there are any.
use Rattle.std.proofs.Common.{◌≡◌, length, Some, refl, sym, subst}
use Rattle.model_core.specs.Code.Views.{graph_of}
use Rattle.model_core.specs.Rules.Merge.{merged, first_merge}
use Rattle.model_facts.specs.NothingCounted.{NothingCounted}
use Rattle.reducer.proofs.FirstLaterRule.{merge_holds, merge_made}
use Rattle.reducer.proofs.CountsForCode.{counts_for_code}
use Rattle.reducer.proofs.later_rules.UnfinishedReduction.merge_first.Goals as goal

pub first_merge-requires-clause-counts : goal.first_merge-requires-clause-counts
first_merge-requires-clause-counts c = counts_for_code c.args.self.now.model _ c.requires.underway.progress.counts

pub note_merge-requires-clause-holds : goal.note_merge-requires-clause-holds
note_merge-requires-clause-holds c = merge_holds (graph_of c.args.self.now.model) c.in-Some.first c.in-Some.second (sym c.in-Some.ensures.found)

pub merge_pair-requires-clause-merging : goal.merge_pair-requires-clause-merging
merge_pair-requires-clause-merging c =
    let g = graph_of c.args.self.now.model in record {
      holds = merge_holds g c.in-Some.first c.in-Some.second (sym c.in-Some.ensures.found);
      facts = c.first_merge.ensures.facts;
      counts = subst (NothingCounted (length g.variables)) (sym c.first_merge.ensures.counts) c.requires.underway.progress.counts;
      pairs = c.in_ok-note_merge.ensures;
    }

pub returns : goal.returns
returns c =
    let g = graph_of c.args.self.now.model in
    let is : first_merge g ≡ Some (c.in-Some.first, c.in-Some.second) = sym c.in-Some.ensures.found in
    let merged_pair = c.in_ok-merge_pair.ensures in
    record {
      made = (merged g c.in-Some.first c.in-Some.second, _, merge_made g _ _ _ _ _ c.requires.underway.valid is refl refl, merged_pair.left);
      progress = merged_pair.progress;
      pairs = merged_pair.pairs;
    }
