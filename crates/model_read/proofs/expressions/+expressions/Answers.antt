-- A level is read as its format is, and a chain one operator after another.
use Rattle.std.proofs.Common.{sym, ◌∙◌, arith}
use Rattle.std.proofs.lemmas.Result.{err_from_is_err_and}
use Rattle.model_core.specs.Code.WrittenViews.{written_expression}
use Rattle.text_laws.specs.Ladder.{climb}
use Rattle.model_read.specs.Infixes.{infix_of}
use Rattle.model_core.specs.Text.Expressions.{Whole, Unary, Primary, level_format}
use Rattle.model_read.proofs.LevelCalls.{by_format, stops_first, gives_others, gives_alone}
use Rattle.text_laws.proofs.OperandLevels.{from-not, from-unary}
use Rattle.text_laws.proofs.OperatorsInTurn.{taken-is, not-taken-is, one-more}
use Rattle.model_read.proofs.expressions.+expressions.Goals as goal

pub expression-returns-clause-reads : goal.expression-returns-clause-reads
unfolding level_format
expression-returns-clause-reads t c = by_format Whole c.conditional.result c.args.cursor.now c.conditional.new.cursor c.conditional.ensures.reads

pub primary-returns-clause-reads : goal.primary-returns-clause-reads
unfolding level_format
primary-returns-clause-reads t c = by_format Primary c.undivided.result c.args.cursor.now c.undivided.new.cursor c.undivided.ensures.reads

pub unary-returns-clause-reads : goal.unary-returns-clause-reads
unfolding level_format
unary-returns-clause-reads t c = by_format Unary c.signed.result c.args.cursor.now c.signed.new.cursor c.signed.ensures.reads

pub operand-returns-then-begins_negation-clause-reads : goal.operand-returns-then-begins_negation-clause-reads
operand-returns-then-begins_negation-clause-reads t c = rw (from-not c.args.under c.args.cursor.now c.requires (c.begins_negation.ensures.yes c.if-begins_negation.true)) c.negation.ensures.reads

pub operand-returns-then-not-goes_on-clause-reads : goal.operand-returns-then-not-goes_on-clause-reads
operand-returns-then-not-goes_on-clause-reads t c =
    gives_alone c.args.under _ _ c.unary-first.result c.unary-first.new.cursor c.requires (from-unary c.args.under c.args.cursor.now c.requires (c.begins_negation.ensures.no c.if-begins_negation.false)) c.unary-first.ensures.reads (c.goes_on.ensures.no c.if-not-goes_on.true)

pub operand-returns-in_err-first-clause-reads : goal.operand-returns-in_err-first-clause-reads
operand-returns-in_err-first-clause-reads t c =
    let p = err_from_is_err_and c.from_residual.result c.from_residual.ensures.1 in
    rw (p.1, p.2) (stops_first (climb c.args.under 0) _ _ c.in_err-first.field-0.0 c.unary-first.new.cursor (from-unary c.args.under c.args.cursor.now c.requires (c.begins_negation.ensures.no c.if-begins_negation.false)) c.in_err-first.ensures.reads)

pub operand-returns-clause-reads : goal.operand-returns-clause-reads
operand-returns-clause-reads t c =
    gives_others (climb c.args.under 0) _ _ c.others.result (written_expression c.in_ok-first.field-0) c.unary-first.new.cursor c.others.new.cursor (from-unary c.args.under c.args.cursor.now c.requires (c.begins_negation.ensures.no c.if-begins_negation.false)) c.in_ok-first.ensures.reads c.others.ensures.reads

pub others-returns-in_err-right-clause-reads : goal.others-returns-in_err-right-clause-reads
others-returns-in_err-right-clause-reads t c =
    let p = err_from_is_err_and c.from_residual.result c.from_residual.ensures.1 in
    rw (p.1, p.2) (stops_first _ _ _ c.in_err-right.field-0.0 c.operand.new.cursor
    (sym c.loop-infix.invariant.reads ∙ taken-is c.args.under c.loop-infix.least (written_expression c.loop-infix.left) c.loop-infix.cursor c.infix.new.self (infix_of c.in-Some.infix) c.requires c.in-Some.ensures.takes c.infix.ensures.leaves) c.in_err-right.ensures.reads)

pub others-loop-infix-preserved : goal.others-loop-infix-preserved
others-loop-infix-preserved t c = record {
  no_longer = let a = c.in-Some.ensures.shorter in let b = c.in_ok-right.ensures.shorter in let d = c.loop-infix.invariant.no_longer in omega arith;
  reads =
      one-more c.args.under c.loop-infix.least c.next_level-least.result (written_expression c.loop-infix.left) (written_expression c.in_ok-right.right) (written_expression c.in_ok-left.left) c.loop-infix.cursor c.infix.new.self c.operand.new.cursor (infix_of c.in-Some.infix)
      c.requires c.in-Some.ensures.takes c.infix.ensures.leaves c.in_ok-right.ensures.reads (rw (c.free.ensures, c.of-held.ensures) at c.in_ok-left.ensures.ok) c.next_level-least.ensures
      ∙ c.loop-infix.invariant.reads;
}

pub others-returns-clause-reads : goal.others-returns-clause-reads
others-returns-clause-reads t c =
    sym c.loop-infix.invariant.reads
    ∙ not-taken-is c.args.under c.loop-infix.least (written_expression c.loop-infix.left) c.loop-infix.cursor c.infix.new.self c.requires c.in_default.ensures.takes c.infix.ensures.leaves

pub branches-returns-clause-reads : goal.branches-returns-clause-reads
branches-returns-clause-reads t c =
    rw (c.in_ok-at.ensures.reads, c.in_ok-expression.ensures.reads, c.in_ok-word.ensures.reads, c.in_ok-expression-2.ensures.reads, c.in_ok-word-2.ensures.reads, c.in_ok-expression-3.ensures.reads, c.in_ok-test.ensures.ok, c.in_ok-yes.ensures.ok, c.in_ok-no.ensures.ok)

pub called-returns-clause-reads : goal.called-returns-clause-reads
called-returns-clause-reads t c =
    rw (c.in_ok-at.ensures.reads, c.in_ok-symbol.ensures.reads, c.in_ok-expression.ensures.reads, c.in_ok-symbol-2.ensures.reads, c.in_ok-expression-2.ensures.reads, c.in_ok-symbol-3.ensures.reads, c.in_ok-first.ensures.ok, c.in_ok-second.ensures.ok)
