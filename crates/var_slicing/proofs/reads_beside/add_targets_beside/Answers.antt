-- One more of both lists, or one of them has come to its end.
use Rattle.std.proofs.Common.{map, ap}
use Rattle.model_core.specs.Code.Views.{location_of, expression_of}
use Rattle.var_slicing.proofs.SideBySide.{begun_beside, one_beside, all_beside}
use Rattle.var_slicing.proofs.reads_beside.add_targets_beside.Goals as goal

pub loop-target-init : goal.loop-target-init
loop-target-init c = begun_beside (ap (map location_of) (cc)) (ap (map expression_of) (cc))

pub loop-target-preserved : goal.loop-target-preserved
loop-target-preserved c = one_beside c.loop-target.invariant c.in-Some.is c.next.ensures.steps c.in_ok-add_target_beside.ensures

pub returns : goal.returns
returns c = all_beside c.loop-target.invariant c.next.new.self c.in-None.is c.next.ensures.steps
