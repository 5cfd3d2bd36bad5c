use Rattle.std.proofs.Common.{arith, map}
use Rattle.std.proofs.lemmas.Result.{err_from_is_err_and}
use Rattle.model_lex.specs.PieceViews.{piece_of}
use Rattle.model_lex.proofs.Cutting.{cut_all, cut_on, gives_error}
use Rattle.model_lex.proofs.lexer.piece_list.Goals as goal

pub loop-at-smaller : goal.loop-at-smaller
loop-at-smaller c =
    let on = cut_on c.args.text.now (map (piece_of c.args.text.now) c.loop-at.list.items) _ c.loop-at.at _ c.loop-at-test.true c.loop-at.invariant c.in_ok-at.ensures.passes in
    omega (arith, on.1)

pub loop-at-preserved : goal.loop-at-preserved
loop-at-preserved c = (cut_on c.args.text.now (map (piece_of c.args.text.now) c.loop-at.list.items) _ c.loop-at.at _ c.loop-at-test.true c.loop-at.invariant c.in_ok-at.ensures.passes).0

pub returns-in_err-at : goal.returns-in_err-at
returns-in_err-at c =
    let p = err_from_is_err_and c.from_residual.result c.from_residual.ensures.1 in
    rw (p.1, p.2)
    (gives_error (map (piece_of c.args.text.now)) c.args.text.now (map (piece_of c.args.text.now) c.loop-at.list.items) c.loop-at.at c.in_err-at.field-0.0 c.loop-at-test.true c.loop-at.invariant c.in_err-at.ensures.bad_byte)

pub returns : goal.returns
returns c = rw c.from_vec.ensures (cut_all c.args.text.now _ c.loop-at.at c.loop-at-test.false c.loop-at.invariant)
