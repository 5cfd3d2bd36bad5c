-- The edge isn't urgent, or no other one is live.
use Rattle.std.proofs.Common.{◌∙◌, not, ◌||◌, map, sym, ap, ap₂}
use Rattle.std.specs.List.{list_any, remove}
use Rattle.model_core.specs.Code.Views.{graph_of, edge_of}
use Rattle.range_bounds.specs.LiveEdges.{is_live}
use Rattle.range_bounds.proofs.ExcludedByNumbers.{any_condition_serves}
use Rattle.range_bounds.proofs.urgency.may_take_any_condition.Goals as goal

pub returns-then-not-is_urgent_at-clause-serves : goal.returns-then-not-is_urgent_at-clause-serves
returns-then-not-is_urgent_at-clause-serves c = λ may.
    let g = graph_of c.args.model.now in
    let es = map edge_of c.args.edges.now in
    any_condition_serves g es c.args.place (ap (λ urgent. not urgent || not (list_any (is_live g) (remove es c.args.place))) (sym c.is_urgent_at.ensures.is ∙ c.if-not-is_urgent_at.true))

pub returns-else-not-is_urgent_at-clause-serves : goal.returns-else-not-is_urgent_at-clause-serves
returns-else-not-is_urgent_at-clause-serves c = λ may.
    let g = graph_of c.args.model.now in
    let es = map edge_of c.args.edges.now in
    any_condition_serves g es c.args.place (ap₂ (λ urgent live. not urgent || not live) (sym c.is_urgent_at.ensures.is ∙ c.if-not-is_urgent_at.false) (sym c.another_is_live.ensures) ∙ may)
