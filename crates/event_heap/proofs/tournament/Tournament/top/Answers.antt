-- The top's key is at most each key.
use Rattle.std.proofs.Common.{◌<◌, length, arith}
use Rattle.std.proofs.lemmas.Bool.Decides.{nat_tests}
use Rattle.event_heap.proofs.TournamentLaws.LeastAtTop.{top-with_key, top-without_key}
use Rattle.event_heap.proofs.tournament.Tournament.top.Goals as goal

pub returns-in-Some : goal.returns-in-Some
returns-in-Some c =
    let some : 0 < length c.self.inside.keys.items = grind (arith, nat_tests) in
    rw (← c.self.view_is) (top-with_key c.self.inside.keys.items c.self.inside.winners.items c.index-vertex.result.now c.index.result.now c.in-Some.field-0 c.self.invariant some c.index-vertex.ensures c.index.ensures c.in-Some.is)

pub returns-in-None : goal.returns-in-None
returns-in-None c =
    let some : 0 < length c.self.inside.keys.items = grind (arith, nat_tests) in
    rw (← c.self.view_is) (top-without_key c.self.inside.keys.items c.self.inside.winners.items c.index-vertex.result.now c.index.result.now c.self.invariant some c.index-vertex.ensures c.index.ensures c.in-None.is)
