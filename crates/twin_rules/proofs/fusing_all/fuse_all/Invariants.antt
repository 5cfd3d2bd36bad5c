use Rattle.std.proofs.Common.{length}
use Rattle.model_core.specs.Code.Views.{graph_of}
use Rattle.twin_rules.specs.Inner.ComparedPairs.{NoneAlike, SkipsUnchanged}
use Rattle.twin_rules.specs.Inner.KeptFingerprints.{AreFingerprints}
use Rattle.twin_rules.specs.Inner.LedTo.{MarksTargets}
use Rattle.twin_rules.proofs.FusedSoFar.{FusedSoFar}
use Rattle.twin_rules.proofs.fusing_all.fuse_all.Given as goal

abbrev pub invariant-loop-keep : goal.invariant-loop-keep
invariant-loop-keep l = record {
  fused : FusedSoFar (graph_of l.fn.model) (graph_of l.model) l.short;
  asked : NoneAlike (graph_of l.model) l.asked;
  skips : SkipsUnchanged l.asked;
  prints : AreFingerprints (graph_of l.model) l.prints;
  targets : MarksTargets (graph_of l.model) l.led;
}

abbrev pub decreases-loop-keep : goal.decreases-loop-keep
decreases-loop-keep l = length l.model.vertices
