use Rattle.std.proofs.Common.{◌≡◌, ◌≤◌, take, length}
use Rattle.std.specs.List.{fold}
use Rattle.model_core.specs.Code.Views.{graph_of}
use Rattle.range_infer.specs.Inner.RangeTests.{first_after}
use Rattle.range_infer.proofs.checking.first_outside.Given as goal

abbrev pub invariant-loop-taken : goal.invariant-loop-taken
invariant-loop-taken l = record {
  within : l.first ≤ length l.model.vars;
  value : l.first ≡ fold (first_after (graph_of l.model) l.ranges) l.start (take l.taken-index l.takes);
}
