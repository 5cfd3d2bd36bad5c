-- A level is read as its format is, and operators one after another.
use Rattle.std.proofs.Common.{refl, sym, ap, ◌∙◌, arith, Some, None}
use Rattle.model_core.specs.Code.Views.{operator_of, expression_of}
use Rattle.model_core.specs.Text.Written as written
use Rattle.model_core.specs.Text.Expressions.{Whole, Unary, Primary, moved, of_name, joining, level_format}
use Rattle.model_core.specs.Static.Meanings.{meaning_of}
use Rattle.text_laws.specs.Ladder.{climb}
use Rattle.std.specs.Option.{option_map}
use Rattle.model_read.specs.Infixes.{infix_of}
use Rattle.model_read.specs.Spelled.{spelled_name}
use Rattle.text_laws.proofs.OperatorsInTurn.{not-taken-is, one-more}
use Rattle.one_pass.proofs.SureOperands.{joined_operand, called_operand, negated_operand, negative_operand, scalar_operand, cell_operand, chosen_operand, moved_operand}
use Rattle.one_pass.proofs.OperandsInTurn.{by_level, first_comes, behind_first, goes-on}
use Rattle.one_pass.proofs.expressions.+expressions.Goals as goal

pub expression-returns : goal.expression-returns
unfolding level_format
expression-returns t c = by_level (meaning_of c.args.names.now) Whole c.args.cursor.now c.conditional.new.cursor c.conditional.result _ _ c.conditional.ensures

pub unary-returns : goal.unary-returns
unfolding level_format
unary-returns t c = by_level (meaning_of c.args.names.now) Unary c.args.cursor.now c.signed.new.cursor c.signed.result _ _ c.signed.ensures

pub primary-returns : goal.primary-returns
unfolding level_format
primary-returns t c = by_level (meaning_of c.args.names.now) Primary c.args.cursor.now c.undivided.new.cursor c.undivided.result _ _ c.undivided.ensures

pub first_operand-returns-then-is_negated : goal.first_operand-returns-then-is_negated
first_operand-returns-then-is_negated t c = rw c.if-is_negated.true c.negated.ensures

pub first_operand-returns-else-is_negated : goal.first_operand-returns-else-is_negated
first_operand-returns-else-is_negated t c = rw c.if-is_negated.false c.unary.ensures

pub operand_under-returns : goal.operand_under-returns
operand_under-returns t c =
    let begins = c.begins_negation-is_negated in
    behind_first (meaning_of c.args.names.now) (climb c.args.under c.least_level_after-least.result) _ _ c.args.cursor.now c.first_operand.new.cursor c.others.new.cursor c.others.result _ _ _ _
    (first_comes c.args.under c.args.cursor.now begins.result c.least_level_after-least.result c.requires begins.ensures.yes begins.ensures.no c.least_level_after-least.ensures) c.in_ok-first_operand.ensures c.others.ensures.reads c.others.ensures.shorter

pub others-returns-in-None-clause-reads : goal.others-returns-in-None-clause-reads
others-returns-in-None-clause-reads t c = λ e is. record {
  written = e;
  is_read = not-taken-is c.args.under c.args.least e c.args.cursor.now c.infix.new.self c.requires c.in-None.ensures.takes c.infix.ensures.leaves;
  operand = is;
}

pub others-returns-in-Some-clause-reads : goal.others-returns-in-Some-clause-reads
others-returns-in-Some-clause-reads t c = goes-on (meaning_of c.args.names.now) c.args.under _ _ _ c.operators.result _ _ _ _ c.args.least c.args.cursor.now c.in-Some.ensures.takes c.infix.ensures.leaves c.operators.ensures.reads

pub operators-loop-taken-init : goal.operators-loop-taken-init
operators-loop-taken-init t c = record {
  few = omega arith;
  below = c.requires.below;
  climbed = λ least before is e reads. record { written = e; operand = reads; least = least; before = before; is_taken = is; goes_on = refl };
}

pub operators-loop-taken-preserved : goal.operators-loop-taken-preserved
operators-loop-taken-preserved t c = record {
  few = let a = c.infix-taken.ensures.no_longer in let b = c.in_ok-operand_under.ensures.shorter in let d = c.loop-taken.invariant.few in omega arith;
  below = c.infix-taken.ensures.below;
  climbed = λ least before is e reads.
      let so_far = c.loop-taken.invariant.climbed least before is e reads in
      let right = c.in_ok-operand_under.ensures.reads in
      let op = operator_of c.in-Some.infix.op in
      let both = joining so_far.written (op, right.written) in
      record {
        written = both;
        operand = joined_operand (meaning_of c.args.names.now) op so_far.written right.written _ _ _ _ _ _ so_far.operand right.operand (rw c.operand_kind.ensures at c.in_ok-expect.ensures) (rw c.right_kind.ensures at c.in_ok-expect-2.ensures) c.in_ok-join.ensures.expr c.in_ok-join.ensures.kind;
        least = c.next_level.result;
        before = c.operand_under.new.cursor;
        is_taken = record { takes = c.infix-taken.ensures.takes; leaves = c.infix-taken.ensures.leaves };
        goes_on =
            one-more c.args.under so_far.least c.next_level.result so_far.written right.written both so_far.before c.loop-taken.cursor c.operand_under.new.cursor (infix_of c.in-Some.infix)
            c.requires.under (sym (ap (option_map infix_of) c.in-Some.is) ∙ so_far.is_taken.takes) so_far.is_taken.leaves right.is_read refl c.next_level.ensures
            ∙ so_far.goes_on;
      };
}

pub operators-returns-clause-reads : goal.operators-returns-clause-reads
operators-returns-clause-reads t c = λ least before takes leaves e is.
    let so_far = c.loop-taken.invariant.climbed least before (record { takes = takes; leaves = leaves }) e is in
    record {
      written = so_far.written;
      is_read = sym so_far.goes_on ∙ not-taken-is c.args.under so_far.least so_far.written so_far.before c.loop-taken.cursor c.requires.under (sym (ap (option_map infix_of) c.in_default.is) ∙ so_far.is_taken.takes) so_far.is_taken.leaves;
      operand = so_far.operand;
    }

pub bracketed-returns-clause-taken : goal.bracketed-returns-clause-taken
bracketed-returns-clause-taken t c =
    let read = c.in_ok-expression.ensures.reads in
    record {
      reads = record { written = read.written; is_read = rw (c.in_ok-symbol.ensures.reads, read.is_read, c.in_ok-symbol-2.ensures.reads) refl; operand = read.operand };
      shorter = omega (arith, c.in_ok-symbol.ensures.shorter, c.in_ok-expression.ensures.shorter, c.in_ok-symbol-2.ensures.shorter);
    }

pub enclosed-returns : goal.enclosed-returns
enclosed-returns t c =
    let read = c.in_ok-expression.ensures.reads in
    record {
      reads = record {
        written = moved c.in_ok-symbol.field-0 read.written;
        is_read = rw (c.in_ok-symbol.ensures.reads, read.is_read, c.in_ok-symbol-2.ensures.reads) refl;
        operand = moved_operand (meaning_of c.args.names.now) c.in_ok-symbol.field-0 read.written _ _ read.operand;
      };
      shorter = omega (arith, c.in_ok-symbol.ensures.shorter, c.in_ok-expression.ensures.shorter, c.in_ok-symbol-2.ensures.shorter);
    }

pub negated-returns : goal.negated-returns
negated-returns t c =
    let read = c.in_ok-operand_under.ensures.reads in
    record {
      reads = record {
        written = written.Not c.in_ok-word.field-0 read.written;
        is_read = rw (c.in_ok-word.ensures.reads, read.is_read) refl;
        operand = negated_operand (meaning_of c.args.names.now) c.in_ok-word.field-0 read.written _ _ _ read.operand c.in_ok-expect.ensures (ap expression_of (c.in_ok-operand.ensures.ok ∙ c.take.ensures.expr));
      };
      shorter = omega (arith, c.in_ok-word.ensures.shorter, c.in_ok-operand_under.ensures.shorter);
    }

pub negative-returns : goal.negative-returns
negative-returns t c =
    let read = c.in_ok-unary.ensures.reads in
    record {
      reads = record {
        written = written.Negative c.in_ok-symbol.field-0 read.written;
        is_read = rw (c.in_ok-symbol.ensures.reads, read.is_read) refl;
        operand = negative_operand (meaning_of c.args.names.now) c.in_ok-symbol.field-0 read.written _ _ _ read.operand c.in_ok-expect.ensures (ap expression_of (c.in_ok-operand.ensures.ok ∙ c.take.ensures.expr));
      };
      shorter = omega (arith, c.in_ok-symbol.ensures.shorter, c.in_ok-unary.ensures.shorter);
    }

pub called-returns : goal.called-returns
called-returns t c =
    let op = operator_of c.args.op in
    let first = c.in_ok-expression.ensures.reads in
    let second = c.in_ok-expression-2.ensures.reads in
    record {
      reads = record {
        written = written.Binary c.in_ok-word.field-0 op first.written second.written;
        is_read = rw (c.in_ok-word.ensures.reads, c.in_ok-symbol.ensures.reads, first.is_read, c.in_ok-symbol-2.ensures.reads, second.is_read, c.in_ok-symbol-3.ensures.reads) refl;
        operand = called_operand (meaning_of c.args.names.now) c.in_ok-word.field-0 op first.written second.written _ _ _ _ _ _ first.operand second.operand (rw c.operand_kind.ensures at c.in_ok-expect.ensures) (rw c.right_kind.ensures at c.in_ok-expect-2.ensures) c.in_ok-join.ensures.expr c.in_ok-join.ensures.kind;
      };
      shorter = omega (arith, c.in_ok-word.ensures.shorter, c.in_ok-symbol.ensures.shorter, c.in_ok-expression.ensures.shorter, c.in_ok-symbol-2.ensures.shorter, c.in_ok-expression-2.ensures.shorter, c.in_ok-symbol-3.ensures.shorter);
    }

pub branches-returns : goal.branches-returns
branches-returns t c =
    let test = c.in_ok-expression.ensures.reads in
    let yes = c.in_ok-expression-2.ensures.reads in
    let no = c.in_ok-expression-3.ensures.reads in
    record {
      reads = record {
        written = written.If c.in_ok-word.field-0 test.written yes.written no.written;
        is_read = rw (c.in_ok-word.ensures.reads, test.is_read, c.in_ok-word-2.ensures.reads, yes.is_read, c.in_ok-word-3.ensures.reads, no.is_read) refl;
        operand = chosen_operand (meaning_of c.args.names.now) c.in_ok-word.field-0 test.written yes.written no.written _ _ _ _ _ _ _ _ test.operand yes.operand no.operand c.in_ok-expect.ensures c.in_ok-expect-2.ensures
            (rw (c.into_expr.ensures, c.into_expr-2.ensures, c.take.ensures.expr) at c.in_ok-expr.ensures) c.known_or-kind.ensures;
      };
      shorter = omega (arith, c.in_ok-word.ensures.shorter, c.in_ok-expression.ensures.shorter, c.in_ok-word-2.ensures.shorter, c.in_ok-expression-2.ensures.shorter, c.in_ok-word-3.ensures.shorter, c.in_ok-expression-3.ensures.shorter);
    }

pub named-returns-then-not-begins_symbol : goal.named-returns-then-not-begins_symbol
named-returns-then-not-begins_symbol t c =
    let name = spelled_name c.in_ok-name.name in
    record {
      reads = record {
        written = of_name name None;
        is_read = rw (c.in_ok-name.ensures.reads, ← c.begins_symbol.ensures, c.if-not-begins_symbol.true) refl;
        operand = scalar_operand (meaning_of c.args.names.now) name c.in_ok-var.var.part c.in_ok-var.var.kind c.in_ok-var.ensures.unbroken c.in_ok-var.ensures.numbers c.in_ok-var.ensures.kind;
      };
      shorter = omega (arith, c.in_ok-name.ensures.shorter);
    }

pub named-returns : goal.named-returns
named-returns t c =
    let name = spelled_name c.in_ok-name.name in
    let index = c.in_ok-bracketed.ensures.taken.reads in
    record {
      reads = record {
        written = of_name name (Some index.written);
        is_read = rw (c.in_ok-name.ensures.reads, ← c.begins_symbol.ensures, c.if-not-begins_symbol.false, index.is_read) refl;
        operand = cell_operand (meaning_of c.args.names.now) name index.written c.in_ok-var-2.var.part _ _ c.in_ok-var-2.var.kind _ c.in_ok-var-2.ensures.unbroken c.in_ok-var-2.ensures.numbers c.in_ok-var-2.ensures.kind index.operand c.in_ok-bracketed.ensures.ranged (ap expression_of (c.in_ok-index.ensures.ok ∙ c.take.ensures.expr));
      };
      shorter = omega (arith, c.in_ok-name.ensures.shorter, c.in_ok-bracketed.ensures.taken.shorter);
    }
