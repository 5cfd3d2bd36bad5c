-- No edge is left.
use Rattle.std.proofs.Common.{◌≡◌, ◌≤◌, [], List, length, map, drop, ap, arith}
use Rattle.std.proofs.lemmas.List.{drop_all}
use Rattle.model_core.specs.declared.vertex.Edge.{Edge}
use Rattle.model_core.specs.Code.Views.{graph_of, edge_of, expression_of}
use Rattle.range_bounds.specs.Inner.ComparedAlike.{live_conditions}
use Rattle.range_bounds.proofs.ExcludedByNumbers.{all_compared}
use Rattle.range_bounds.proofs.compared_alike.comparisons_of.Goals as goal

pub returns-clause-found : goal.returns-clause-found
returns-clause-found c =
    let g = graph_of c.args.model.now in
    let past : length c.args.edges.now ≤ c.loop-edge.edge-index = omega arith in
    let none : drop c.loop-edge.edge-index c.args.edges.now ≡ [] = drop_all c.loop-edge.edge-index c.args.edges.now past in
    all_compared (expression_of c.args.left.now) (live_conditions g (map edge_of c.args.edges.now)) (live_conditions g (map edge_of (drop c.loop-edge.edge-index c.args.edges.now))) _
    (ap (λ (es : List Edge). live_conditions g (map edge_of es)) none) c.loop-edge.invariant.compared c.loop-edge.invariant.counted c.loop-edge.invariant.within
