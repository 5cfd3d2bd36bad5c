-- The plain urgent edge is one of the edges.
use Rattle.std.proofs.Common.{◌∙◌, ap, length, arith}
use Rattle.std.proofs.lemmas.List.{length-map}
use Rattle.model_core.specs.Code.Views.{vertex_of, edge_of}
use Rattle.merge_rules.proofs.SingleUrgentModels.PlainEdges.{plain_within}
use Rattle.merge_rules.proofs.taking_over.take_over.Goals as goal

pub put_in_place-requires-clause-place : goal.put_in_place-requires-clause-place
put_in_place-requires-clause-place c =
    let below = plain_within (vertex_of c.args.vertex.now) c.args.place c.requires.at in
    let same = length-map c.args.vertex.now.edges edge_of in
    let kept = ap length (c.in-Ok.ensures.edges ∙ c.as_mut_vec-edges.ensures.shows) in
    omega (arith, below, same, kept, c.make_room.new.edges.ok.0)
