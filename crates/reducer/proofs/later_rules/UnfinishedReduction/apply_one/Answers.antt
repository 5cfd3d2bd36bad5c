-- Made is what the first of the three gives.
use Rattle.std.proofs.Common.{map, true}
use Rattle.model_core.specs.Code.Views.{graph_of, application_of}
use Rattle.model_core.specs.Rules.Reduction.{first_rule}
use Rattle.reducer.specs.Inner.UnfinishedReduction.{merge_rule}
use Rattle.reducer.proofs.FirstLaterRule.{drop_is_made, merge_on_is_made, slice_is_made, one_made, none_made}
use Rattle.reducer.proofs.RuleByRule.{answer_of}
use Rattle.reducer.proofs.later_rules.UnfinishedReduction.apply_one.Goals as goal

pub returns-then-branch : goal.returns-then-branch
returns-then-branch c =
    let dropped = c.in_ok-drop_first.ensures.by_rule in
    record { made = one_made first_rule (graph_of c.args.self.now.model) (graph_of c.drop_first.new.self.model) (map application_of c.args.self.now.applications.items) (map application_of c.drop_first.new.self.applications.items) true (drop_is_made _ _ _ _ c.requires.no_edge_rule _ c.if-branch.true dropped.made); progress = dropped.progress; pairs = dropped.pairs }

pub returns-then-branch-2 : goal.returns-then-branch-2
returns-then-branch-2 c =
    let merged = c.in_ok-merge_first.ensures in record {
      made = merge_on_is_made _ _ _ _ _ _ c.requires.no_edge_rule _ _ c.if-branch.false c.if-branch-2.true c.in_ok-drop_first.ensures.by_rule.made merged.made;
      progress = merged.progress;
      pairs = merged.pairs;
    }

pub returns : goal.returns
returns c =
    answer_of c.slice_unneeded.result
    (λ made by. record {
      made = one_made first_rule (graph_of c.args.self.now.model) (graph_of c.slice_unneeded.new.self.model) (map application_of c.args.self.now.applications.items) (map application_of c.slice_unneeded.new.self.applications.items) made (slice_is_made _ _ _ _ _ _ _ _ c.requires.no_edge_rule _ _ c.if-branch.false c.if-branch-2.false c.in_ok-drop_first.ensures.by_rule.made (none_made merge_rule _ _ _ _ _ c.if-branch-2.false c.in_ok-merge_first.ensures.made) made by.made);
      progress = by.progress;
      pairs = by.pairs;
    })
    c.slice_unneeded.ensures
