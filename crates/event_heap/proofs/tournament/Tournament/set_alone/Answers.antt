-- With a new key, the games of its vertex alone are to be played, and it wins them.
use Rattle.std.proofs.Common.{◌≡◌, length, set}
use Rattle.std.proofs.lemmas.List.{length-set}
use Rattle.event_heap.proofs.TournamentLaws.Alone.{alone-set_key}
use Rattle.event_heap.proofs.TournamentLaws.Played.{replayed-set_key}
use Rattle.event_heap.proofs.tournament.Tournament.set_alone.Goals as goal

pub play_alone-requires-clause-alone : goal.play_alone-requires-clause-alone
play_alone-requires-clause-alone c =
    rw c.as_slice.ensures.value (alone-set_key c.self.inside.keys.items c.args.vertex c.args.key (rw c.self.view_is c.requires.alone))

pub play_alone-requires-clause-others : goal.play_alone-requires-clause-others
play_alone-requires-clause-others c =
    let keys = c.self.inside.keys.items in
    let winners = c.self.inside.winners.items in
    let e : length (set keys c.args.vertex c.args.key) ≡ length keys = length-set keys c.args.vertex c.args.key in
    rw (c.as_slice.ensures.value, c.as_mut_slice.ensures.value, e)
    (replayed-set_key keys winners c.args.vertex c.args.key c.self.invariant (rw c.self.view_is c.requires.vertex))
