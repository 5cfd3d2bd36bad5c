-- A token ends a part, or opens, or neither.
use Rattle.std.proofs.Common.{map, sym, ap, arith}
use Rattle.model_lex.specs.PieceViews.{piece_of}
use Rattle.text_laws.proofs.OpeningLaws.{deep-is_counted}
use Rattle.model_read.specs.Inner.CountedTokens.{is_end, opens}
use Rattle.model_read.proofs.OpeningSteps.{past-end, past-opening, past-other}
use Rattle.model_read.proofs.openings.counted_too_deep.Goals.{in-Opening+else-room-eq0, in-End, in-Other}
use Rattle.model_read.proofs.openings.counted_too_deep.Goals as goal

pub loop-token-init : goal.loop-token-init
loop-token-init c = λ text. sym (deep-is_counted c.args.limit (map (piece_of text) c.args.tokens.now))

pub loop-token-preserved : goal.loop-token-preserved
loop-token-preserved c = λ text.
    let kind = c.count_of.result in
    let room = c.match-count_of.room in
    elim c.match-count_of.branch [
      | in-Opening+else-room-eq0 w ↦
          past-opening c.args.limit c.loop-token.room room text c.args.tokens.now c.loop-token.token-index _ _ (is_end kind) (opens kind) c.loop-token-test.true (λ bytes. (c.count_of.ensures bytes).0) (ap is_end w.in-Opening.is)
          (λ bytes. (c.count_of.ensures bytes).1) (ap opens w.in-Opening.is) (let e = w.room-is in let f = w.if-room-eq0.false in omega arith) (c.loop-token.invariant text)
      | in-End w ↦ past-end c.args.limit c.loop-token.room room text c.args.tokens.now c.loop-token.token-index _ _ (is_end kind) c.loop-token-test.true (λ bytes. (c.count_of.ensures bytes).0) (ap is_end w.in-End.is) w.room-is (c.loop-token.invariant text)
      | in-Other w ↦
          past-other c.args.limit c.loop-token.room room text c.args.tokens.now c.loop-token.token-index _ _ (is_end kind) (opens kind) c.loop-token-test.true (λ bytes. (c.count_of.ensures bytes).0) (ap is_end w.in-Other.is)
          (λ bytes. (c.count_of.ensures bytes).1) (ap opens w.in-Other.is) w.room-is (c.loop-token.invariant text)
    ]
