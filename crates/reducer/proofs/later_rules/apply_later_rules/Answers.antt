-- Each turn leaves less, and leads on by the first rule.
use Rattle.std.proofs.Common.{List, map, subst, sym}
use Rattle.model_core.specs.declared.application.Application.{Application}
use Rattle.model_core.specs.Code.Views.{graph_of, application_of}
use Rattle.reducer.specs.Inner.LaterRules.{IsStrategyNoted}
use Rattle.reducer.proofs.RuleByRule.{led_further, leaves_less, led_to_the_end}
use Rattle.reducer.proofs.later_rules.apply_later_rules.Goals as goal

pub loop-underway-smaller : goal.loop-underway-smaller
loop-underway-smaller c = leaves_less c.later_rules_leave_edges.ensures c.chains_keep_the_meaning.ensures.one_valid c.merging_takes_an_urgent_edge.ensures _ _ _ _ _ _ _ c.if-branch.true c.loop-underway.invariant.led c.in_ok-apply_one.ensures.made

pub loop-underway-preserved : goal.loop-underway-preserved
loop-underway-preserved c = record {
  led = led_further c.later_rules_leave_edges.ensures c.chains_keep_the_meaning.ensures.one_valid _ _ _ _ _ _ _ c.if-branch.true c.loop-underway.invariant.led c.in_ok-apply_one.ensures.made;
  progress = c.in_ok-apply_one.ensures.progress;
  pairs = c.in_ok-apply_one.ensures.pairs;
}

pub returns : goal.returns
returns c =
    let left = graph_of c.apply_one.new.self.model in
    subst (λ (noted : List Application). IsStrategyNoted (graph_of c.args.model) left (map application_of c.args.applications.items) (map application_of noted)) (sym c.from_vec.ensures)
    (led_to_the_end _ _ _ _ _ _ _ c.if-branch.false c.loop-underway.invariant.led c.in_ok-apply_one.ensures.made)
