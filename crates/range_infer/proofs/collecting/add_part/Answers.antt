-- The vertex that is there.
use Rattle.std.proofs.Common.{◌++◌, ◌∙◌, List, sym, ap}
use Rattle.model_core.specs.Code.Views.{graph_of, vertex_of}
use Rattle.model_core.specs.declared.incoming.Incoming.{Incoming}
use Rattle.range_infer.specs.Inner.RangesLeft.{variables_left}
use Rattle.range_infer.specs.Inner.PartReads.{parts_read}
use Rattle.range_infer.specs.Inner.LookedAt.{vertex_part_seen}
use Rattle.range_infer.proofs.PartsBeside.{made_of_part, part_given}
use Rattle.range_infer.proofs.collecting.add_part.Goals as goal

pub add_vertex_part-requires : goal.add_vertex_part-requires
add_vertex_part-requires c = record {
  reads = made_of_part vertex_of parts_read c.args.vertices.now c.args.reads.now c.args.part.vertex c.index-vertices-place.result c.index-reads-place.result c.requires.reads c.if-place-vertices.true c.index-vertices-place.is c.index-reads-place.is;
}

pub returns-in_ok-add_vertex_part-clause-out : goal.returns-in_ok-add_vertex_part-clause-out
returns-in_ok-add_vertex_part-clause-out c =
    let left = c.args.left.now in
    let seen = vertex_part_seen (graph_of left.model.now) c.args.look.now.all c.args.look.now.moved.now (variables_left left) c.args.part in
    c.in_ok-add_vertex_part.ensures.out
    ∙ ap (λ (is : List Incoming). c.args.out.now.items ++ is) (sym (part_given vertex_of seen c.args.vertices.now c.args.part.vertex c.index-vertices-place.result c.if-place-vertices.true c.index-vertices-place.is))
