-- The plain urgent edge is one of the edges.
use Rattle.std.proofs.Common.{rules, arith}
use Rattle.std.proofs.lemmas.List.{length-map}
use Rattle.model_core.specs.Code.Views.{vertex_of, edge_of}
use Rattle.merge_rules.proofs.SingleUrgentModels.PlainEdges.{plain_within}
use Rattle.merge_rules.proofs.within_limits.urgent_place.Goals as goal

pub returns-clause-within : goal.returns-clause-within
returns-clause-within c =
    let below = plain_within (vertex_of c.args.first.now) c.unwrap.result (search rules) in
    let same = length-map c.args.first.now.edges edge_of in
    omega (arith, below, same)
