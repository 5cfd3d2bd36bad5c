use Rattle.std.proofs.Common.{true, Some, sym}
use Rattle.model_core.specs.declared.model.Kind.TheVariants as kinds
use Rattle.model_core.specs.declared.token.Word.TheVariants.{When}
use Rattle.model_core.specs.EventGraph.{Truth}
use Rattle.model_core.specs.Code.Views.{expression_of}
use Rattle.model_core.specs.Text.Format.{AWord, reserved, ◌*>◌}
use Rattle.model_core.specs.Text.Expressions.{expression_format}
use Rattle.model_core.specs.Text.Language.{when_format}
use Rattle.model_core.specs.Text.Numbering.{expression}
use Rattle.model_core.specs.Static.Meanings.{meaning_of}
use Rattle.model_core.specs.Static.PartFaults.{operand_faults}
use Rattle.text_laws.proofs.ReadLoop.{begins-one}
use Rattle.one_pass.proofs.FormatReads.{after_a_token, is_there, is_left_out}
use Rattle.one_pass.proofs.edges.condition.Goals as goal

pub returns-then-not-begins_word : goal.returns-then-not-begins_word
unfolding when_format
returns-then-not-begins_word c =
    let m = meaning_of c.args.names.now in
    is_left_out (reserved When *> expression_format) m (operand_faults m (Some kinds.Truth)) expression (Truth true) c.args.cursor.now (begins-one (AWord When) c.args.cursor.now _ (sym c.if-not-begins_word.ensures))

pub returns : goal.returns
unfolding when_format
returns c =
    let m = meaning_of c.args.names.now in
    is_there (reserved When *> expression_format) m (operand_faults m (Some kinds.Truth)) expression (Truth true) c.args.cursor.now c.value.new.cursor (expression_of c.in_ok-condition.condition) (begins-one (AWord When) c.args.cursor.now _ (sym c.if-not-begins_word.ensures))
    (after_a_token expression_format m (operand_faults m (Some kinds.Truth)) expression (reserved When) c.args.cursor.now c.word.new.self c.value.new.cursor c.in_ok-word.field-0 (expression_of c.in_ok-condition.condition) c.in_ok-word.ensures.reads c.in_ok-condition.ensures)
