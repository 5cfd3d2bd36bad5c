-- With a new key, the games of its vertex alone are to be played.
use Rattle.std.proofs.Common.{◌≡◌, length, set}
use Rattle.std.proofs.lemmas.List.{length-set}
use Rattle.event_heap.proofs.TournamentLaws.Played.{replayed-set_key}
use Rattle.event_heap.proofs.tournament.Tournament.set.Goals as goal

pub play-requires-clause-others : goal.play-requires-clause-others
play-requires-clause-others g c =
    let keys = c.self.inside.keys.items in
    let winners = c.self.inside.winners.items in
    let e : length (set keys c.args.vertex c.args.key) ≡ length keys = length-set keys c.args.vertex c.args.key in
    rw (c.as_slice.ensures.value, c.as_mut_slice.ensures.value, e)
    (replayed-set_key keys winners c.args.vertex c.args.key c.self.invariant (rw c.self.view_is c.requires))
