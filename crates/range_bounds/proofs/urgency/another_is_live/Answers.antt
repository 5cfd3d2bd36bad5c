-- The others are those before the place and those after it.
use Rattle.std.proofs.Common.{◌∙◌, ◌+◌, ◌||◌, List, map, drop, sym, ap}
use Rattle.std.specs.List.{list_any}
use Rattle.std.proofs.lemmas.List.{take_rest}
use Rattle.model_core.specs.declared.vertex.Edge.{Edge}
use Rattle.model_core.specs.Code.Views.{graph_of, edge_of}
use Rattle.range_bounds.specs.LiveEdges.{is_live}
use Rattle.range_bounds.proofs.ExcludedByNumbers.{any-removed}
use Rattle.range_bounds.proofs.urgency.another_is_live.Goals as goal

pub returns-then-one_is_live : goal.returns-then-one_is_live
returns-then-one_is_live c =
    let p = is_live (graph_of c.args.model.now) in
    let es = c.args.edges.now in
    let later = list_any p (map edge_of (drop (c.args.place + 1) es)) in
    c.if-one_is_live.true ∙ sym (any-removed p es c.args.place ∙ ap (λ b. b || later) (sym c.one_is_live.ensures ∙ c.if-one_is_live.true))

pub returns-else-one_is_live : goal.returns-else-one_is_live
returns-else-one_is_live c =
    let p = is_live (graph_of c.args.model.now) in
    let es = c.args.edges.now in
    let later = list_any p (map edge_of (drop (c.args.place + 1) es)) in
    c.one_is_live-else-one_is_live.ensures ∙ ap (λ (es : List Edge). list_any p (map edge_of es)) (take_rest es (c.args.place + 1))
    ∙ sym (any-removed p es c.args.place ∙ ap (λ b. b || later) (sym c.one_is_live.ensures ∙ c.if-one_is_live.false))
