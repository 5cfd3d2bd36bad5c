-- The vertex wins one game more.
use Rattle.std.proofs.Common.{◌+◌, ◌*◌, ◌<◌, length, get_or, refl, arith}
use Rattle.std.proofs.lemmas.List.{get_or-set_same}
use Rattle.event_heap.proofs.TournamentLaws.Alone.{alone-wins, either-below}
use Rattle.event_heap.proofs.TournamentLaws.Played.{replayed-set_winner}
use Rattle.event_heap.proofs.games.play_alone.Goals as goal

pub loop-place-init : goal.loop-place-init
loop-place-init c = record {
  within = omega arith;
  replayed = c.requires.others;
  below = (length c.args.keys.now + c.args.vertex, refl, c.requires.others.played.seats c.args.vertex c.requires.vertex);
}

pub loop-place-preserved : goal.loop-place-preserved
loop-place-preserved c =
    let before = c.loop-place.invariant in
    let (below, half, winner) = before.below in
    let left = get_or c.loop-place.winners (2 * c.loop-place.place) 0 in
    let right = get_or c.loop-place.winners (2 * c.loop-place.place + 1) 0 in
    let there : c.loop-place.place < length c.loop-place.winners = omega (arith, before.replayed.played.places) in
    record {
      within = omega arith;
      replayed = replayed-set_winner c.args.keys.now c.loop-place.winners c.args.vertex c.loop-place.place c.args.vertex before.replayed c.loop-place-test.true before.within (alone-wins c.args.keys.now c.args.vertex left right c.requires.alone (either-below c.loop-place.winners c.args.vertex c.loop-place.place below half winner));
      below = (c.loop-place.place, refl, get_or-set_same c.loop-place.winners c.loop-place.place c.args.vertex 0 there);
    }
