-- A game more, and no game more where the winner is the same.
use Rattle.std.proofs.Common.{◌+◌, ◌*◌, get_or, sym, ◌∙◌, arith}
use Rattle.event_heap.specs.Inner.Games.{winner_of}
use Rattle.event_heap.proofs.TournamentLaws.GamesLeft.{one_game_fewer}
use Rattle.event_heap.proofs.TournamentLaws.KeyLaws.{winner-wins, won-by_game}
use Rattle.event_heap.proofs.TournamentLaws.Played.{replayed-set_winner, replayed-same_winner}
use Rattle.event_heap.proofs.games.play.Goals as goal

pub returns-then-won-vertex-clause-all : goal.returns-then-won-vertex-clause-all
returns-then-won-vertex-clause-all g c =
    let before = c.loop-place.invariant in
    let won = rw (c.players-left.ensures.left, c.players-left.ensures.right) at c.winner-won.ensures.winner in
    replayed-same_winner c.args.keys.now c.loop-place.winners c.args.vertex c.loop-place.place before.replayed c.loop-place-test.true before.within (won-by_game c.args.keys.now c.loop-place.winners c.loop-place.place (sym c.if-won-winners.true ∙ won)) (λ e. c.if-won-vertex.true (c.if-won-winners.true ∙ e))

pub returns-then-won-vertex-clause-ticks : goal.returns-then-won-vertex-clause-ticks
returns-then-won-vertex-clause-ticks g c d h =
    let games = c.loop-place.invariant.ticks d h in
    let (fewer, within, most) = one_game_fewer c.loop-place.place games.0 c.loop-place.steps c.winner-won.new.steps (c.args.steps.now + d) c.loop-place-test.true games.1 games.2 c.winner-won.ensures.ticks in
    omega arith

pub loop-place-preserved : goal.loop-place-preserved
loop-place-preserved g c =
    let before = c.loop-place.invariant in
    let won = rw (c.players-left.ensures.left, c.players-left.ensures.right) at c.winner-won.ensures.winner in
    let left = get_or c.loop-place.winners (2 * c.loop-place.place) 0 in
    let right = get_or c.loop-place.winners (2 * c.loop-place.place + 1) 0 in
    let winner = winner_of c.args.keys.now left right in
    record {
      within = omega arith;
      replayed = rw won (replayed-set_winner c.args.keys.now c.loop-place.winners c.args.vertex c.loop-place.place winner before.replayed c.loop-place-test.true before.within (winner-wins c.args.keys.now left right));
      ticks = λ d h.
          let games = before.ticks d h in
          one_game_fewer c.loop-place.place games.0 c.loop-place.steps c.winner-won.new.steps (c.args.steps.now + d) c.loop-place-test.true games.1 games.2 c.winner-won.ensures.ticks;
    }
