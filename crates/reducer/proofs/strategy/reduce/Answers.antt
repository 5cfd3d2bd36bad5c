-- What the sweeps and the rules after them leave and note is the whole strategy.
use Rattle.std.proofs.Common.{map, ap}
use Rattle.std.proofs.lemmas.Result.{IfOk-weaker}
use Rattle.model_core.specs.Code.Views.{graph_of, application_of}
use Rattle.reducer.proofs.WholeStrategy.{strategy_made, swept_valid, swept_none}
use Rattle.reducer.proofs.strategy.reduce.Goals as goal

pub returns : goal.returns
returns c =
    IfOk-weaker c.apply_later_rules.result _ _
    (λ reduced. strategy_made c.chains_keep_the_meaning.ensures.valid (graph_of c.args.model) (graph_of c.sweep.new.model) (graph_of c.sweep-2.new.model) (graph_of reduced.model) _ _ _ _ c.requires
    c.in_ok-sweep.ensures.swept c.in_ok-sweep-2.ensures.swept
    (ap (map application_of) c.new-applications.ensures.items) c.in_ok-sweep.ensures.applied c.in_ok-sweep-2.ensures.applied)
    c.apply_later_rules.ensures

pub apply_later_rules-requires-clause-valid : goal.apply_later_rules-requires-clause-valid
apply_later_rules-requires-clause-valid c = swept_valid c.chains_keep_the_meaning.ensures.valid (graph_of c.args.model) _ _ c.requires c.in_ok-sweep.ensures.swept c.in_ok-sweep-2.ensures.swept

pub apply_later_rules-requires-clause-no_edge_rule : goal.apply_later_rules-requires-clause-no_edge_rule
apply_later_rules-requires-clause-no_edge_rule c = swept_none c.chains_keep_the_meaning.ensures.valid (graph_of c.args.model) _ _ c.requires c.in_ok-sweep.ensures.swept c.in_ok-sweep-2.ensures.swept
