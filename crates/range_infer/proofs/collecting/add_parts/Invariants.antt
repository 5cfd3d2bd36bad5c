use Rattle.std.proofs.Common.{◌≡◌, ◌++◌, map, take}
use Rattle.std.specs.List.{flat_map}
use Rattle.model_core.specs.Code.Views.{graph_of, vertex_of}
use Rattle.range_infer.specs.Inner.RangesLeft.{variables_left, StaysLeft}
use Rattle.range_infer.specs.Inner.LookedAt.{part_seen}
use Rattle.range_infer.proofs.collecting.add_parts.Given as goal

abbrev pub invariant-loop-part : goal.invariant-loop-part
invariant-loop-part l = record {
  out : l.out.items ≡ l.initial.out.items ++ flat_map (part_seen (graph_of l.initial.left.model.now) l.look.all l.look.moved.now (variables_left l.initial.left) (map vertex_of l.vertices)) (take l.part-index l.parts);
  left : StaysLeft l.initial.left l.left;
}
