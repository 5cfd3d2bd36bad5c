-- one location more, with the value beside it
use Rattle.std.proofs.Common.{map}
use Rattle.model_core.specs.Code.Views.{graph_of, location_of, expression_of}
use Rattle.describe.proofs.Assignments.{one_phrase_more}
use Rattle.describe.proofs.changes.put_later_becoming.Goals as goal

pub loop-place-preserved : goal.loop-place-preserved
loop-place-preserved c = one_phrase_more (graph_of c.args.model.now) location_of c.args.targets.now (map expression_of c.args.values.now) c.loop-place.place c.index-targets-place.result _ _ _ c.loop-place-test.true c.index-targets-place.is c.in_ok-put_becoming_at.ensures c.loop-place.invariant
