use Rattle.model_core.specs.declared.token.Symbol.TheVariants.{OpenParenthesis, CloseParenthesis}
use Rattle.model_core.specs.Text.Format.{mark, ◌*>◌, separated}
use Rattle.model_core.specs.Text.Expressions.{expression_format}
use Rattle.model_core.specs.Text.Language.{values_format}
use Rattle.one_pass.proofs.WholeReads.{left_out}
use Rattle.one_pass.proofs.FormatReads.{follows}
use Rattle.one_pass.proofs.destination.values_in_parentheses.Goals as goal

pub returns : goal.returns
unfolding values_format
returns c =
    let values = c.in_ok-values.ensures in
    record {
      written = values.written;
      read = left_out (mark OpenParenthesis *> separated expression_format) (mark CloseParenthesis) c.args.cursor.now c.values.new.cursor c.symbol-2.new.self values.written c.in_ok-symbol-2.field-0
          (follows (mark OpenParenthesis) (separated expression_format) c.args.cursor.now c.symbol.new.self c.values.new.cursor c.in_ok-symbol.field-0 values.written c.in_ok-symbol.ensures.reads values.read) c.in_ok-symbol-2.ensures.reads;
      unbroken = values.unbroken;
      numbers = values.numbers;
    }
