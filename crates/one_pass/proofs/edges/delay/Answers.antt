use Rattle.std.proofs.Common.{sym}
use Rattle.model_core.specs.Code.Views.{expression_of, choice_of}
use Rattle.model_core.specs.Static.Meanings.{meaning_of}
use Rattle.one_pass.proofs.EdgesRead.{fixed_read, drawn_read}
use Rattle.one_pass.proofs.edges.delay.Goals as goal

pub returns-then-begins_word : goal.returns-then-begins_word
returns-then-begins_word c = λ taken. drawn_read (meaning_of c.args.names.now) taken c.args.is_two c.if-not-is_two.false c.in_ok-word.field-0 c.args.cursor.now c.word.new.self c.source.new.cursor c.in_ok-stream.stream (choice_of c.in_ok-stream.choice) (sym c.if-begins_word.ensures) c.in_ok-word.ensures.reads c.in_ok-stream.ensures

pub returns : goal.returns
returns c = λ taken. fixed_read (meaning_of c.args.names.now) taken c.args.is_two c.args.cursor.now c.value.new.cursor (expression_of c.in_ok-expr.expr) (sym c.if-begins_word.ensures) c.in_ok-expr.ensures
