use Rattle.std.proofs.Common.{◌≡◌, ◌++◌, map, drop}
use Rattle.model_core.specs.Code.Views.{expression_of}
use Rattle.range_infer.specs.Inner.RangesLeft.{variables_left, StaysLeft}
use Rattle.range_infer.specs.Inner.LookedAt.{assigned_seen}
use Rattle.range_infer.proofs.collecting.add_parameters.Given as goal

abbrev pub invariant-loop-place : goal.invariant-loop-place
invariant-loop-place l =
    let seen = assigned_seen l.look.all l.look.moved.now (variables_left l.initial.left) in
    record {
      out : l.out.items ++ seen (drop l.place l.params) (drop l.place (map expression_of l.values)) ≡ l.initial.out.items ++ seen l.params (map expression_of l.values);
      left : StaysLeft l.initial.left l.left;
    }
