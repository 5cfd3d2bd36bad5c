use Rattle.std.proofs.Common.{sym}
use Rattle.model_core.specs.declared.token.Word.TheVariants.{Priority}
use Rattle.model_core.specs.Code.WrittenViews.{written_number}
use Rattle.model_core.specs.Text.Format.{AWord, reserved, any_number, ◌*>◌}
use Rattle.model_core.specs.Text.Numbering.{natural}
use Rattle.model_core.specs.Static.PartFaults.{priority_faults}
use Rattle.text_laws.proofs.ReadLoop.{begins-one}
use Rattle.one_pass.proofs.FormatReads.{after_a_token, is_there, is_left_out}
use Rattle.one_pass.proofs.edges.priority.Goals as goal

pub returns-then-not-begins_word : goal.returns-then-not-begins_word
returns-then-not-begins_word c =
    λ means. is_left_out (reserved Priority *> any_number) means priority_faults (λ d. natural) 5 c.args.cursor.now (begins-one (AWord Priority) c.args.cursor.now _ (sym c.if-not-begins_word.ensures))

pub returns : goal.returns
returns c =
    λ means. is_there (reserved Priority *> any_number) means priority_faults (λ d. natural) 5 c.args.cursor.now c.number.new.self c.in_ok-priority.priority (begins-one (AWord Priority) c.args.cursor.now _ (sym c.if-not-begins_word.ensures))
    (after_a_token any_number means priority_faults (λ d. natural) (reserved Priority) c.args.cursor.now c.word.new.self c.number.new.self c.in_ok-word.field-0 c.in_ok-priority.priority c.in_ok-word.ensures.reads
    (record { written = written_number c.in_ok-raw.raw; read = c.in_ok-raw.ensures.reads; unbroken = c.in_ok-priority.ensures.unbroken; numbers = λ d p. c.in_ok-priority.ensures.numbers }))
