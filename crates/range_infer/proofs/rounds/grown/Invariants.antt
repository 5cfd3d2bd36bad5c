use Rattle.std.proofs.Common.{◌≡◌, take, length}
use Rattle.std.specs.List.{fold}
use Rattle.model_core.specs.Code.Views.{graph_of}
use Rattle.range_infer.specs.Inner.GrownBy.{grown_by}
use Rattle.range_infer.proofs.rounds.grown.Given as goal

abbrev pub invariant-loop-taken : goal.invariant-loop-taken
invariant-loop-taken l = record {
  many : length l.grown.items ≡ length l.model.vars;
  value : l.grown.items ≡ fold (grown_by (graph_of l.model)) l.ranges (take l.taken-index l.takes);
}
