-- The vertex is put into the set of the number.
use Rattle.std.proofs.lemmas.Result.{on_ok_weaker}
use Rattle.conflict_report.proofs.NumbersNoted.{put-reached}
use Rattle.conflict_report.proofs.holders.Holders.put.Goals as goal

pub returns : goal.returns
returns c =
    on_ok_weaker c.put.result
    (put-reached c.args.self.now c.reach.new.self c.self.inside.sets.items c.args.number c.args.vertex c.index_mut-set.result.now c.put.new.self c.in_ok-reach.ensures.same c.in_ok-reach.ensures.reached c.self.view_is c.index_mut-set.ensures.value)
    c.put.ensures
