-- One successor more.
use Rattle.std.proofs.Common.{◌<◌, length, arith}
use Rattle.mark_laws.specs.PlacePairs.{successors_of}
use Rattle.marked_walks.specs.Inner.Finding.{found_of, find_all}
use Rattle.marked_walks.proofs.FindingLaws.{one_further}
use Rattle.marked_walks.proofs.entailing.Finder.follow_one.Goals as goal

pub loop-nth-preserved : goal.loop-nth-preserved
loop-nth-preserved g c =
    let ks = successors_of (g.N.PlaceSuccessors.lists c.args.next.now) c.args.place in
    let below : c.loop-nth.nth < length ks = omega (arith, c.loop-nth-test.true, c.successor_count-nth-end.ensures) in
    one_further (found_of c.loop-nth.self) (found_of c.follow_nth.new.self) (find_all (found_of c.args.self.now) ks) ks c.loop-nth.nth below c.in_ok-follow_nth.ensures c.loop-nth.invariant
