-- The edge that is there.
use Rattle.std.proofs.Common.{◌++◌, ◌∙◌, List, sym, ap}
use Rattle.model_core.specs.Code.Views.{graph_of, edge_of}
use Rattle.model_core.specs.declared.incoming.Incoming.{Incoming}
use Rattle.range_infer.specs.Inner.RangesLeft.{variables_left}
use Rattle.range_infer.specs.Inner.PartReads.{carried_reads}
use Rattle.range_infer.specs.Inner.LookedAt.{edge_seen}
use Rattle.range_infer.proofs.PartsBeside.{made_of_part, part_given}
use Rattle.range_infer.proofs.collecting.add_edge_at.Goals as goal

pub add_edge-requires : goal.add_edge-requires
add_edge-requires c = record {
  reads = made_of_part edge_of carried_reads c.args.edges.now c.args.reads.now c.args.place c.index-edges-place.result c.index-reads-place.result c.requires.reads c.if-place-edges.true c.index-edges-place.is c.index-reads-place.is;
}

pub returns-in_ok-add_edge-clause-out : goal.returns-in_ok-add_edge-clause-out
returns-in_ok-add_edge-clause-out c =
    let left = c.args.left.now in
    let seen = edge_seen (graph_of left.model.now) c.args.look.now.all c.args.look.now.moved.now (variables_left left) in
    c.in_ok-add_edge.ensures.out
    ∙ ap (λ (is : List Incoming). c.args.out.now.items ++ is) (sym (part_given edge_of seen c.args.edges.now c.args.place c.index-edges-place.result c.if-place-edges.true c.index-edges-place.is))
