use Rattle.std.proofs.Common.{pos, sym}
use Rattle.model_core.specs.declared.token.Word.TheVariants.{After}
use Rattle.model_core.specs.EventGraph.{Fixed, Number}
use Rattle.model_core.specs.Code.Views.{edge_delay_of}
use Rattle.model_core.specs.Text.Format.{AWord, reserved, ◌*>◌}
use Rattle.model_core.specs.Text.Language.{delay_format}
use Rattle.model_core.specs.Text.Numbering as numbering
use Rattle.model_core.specs.Static.Meanings.{meaning_of}
use Rattle.text_laws.proofs.ReadLoop.{begins-one}
use Rattle.one_pass.specs.Inner.AllFaults.{all_delay_faults}
use Rattle.one_pass.proofs.FormatReads.{after_a_token, is_there, is_left_out}
use Rattle.one_pass.proofs.edges.after.Goals as goal

pub returns-then-not-begins_word : goal.returns-then-not-begins_word
returns-then-not-begins_word c = λ taken.
    let m = meaning_of c.args.names.now in
    is_left_out (reserved After *> delay_format) m (all_delay_faults c.args.is_two m taken) numbering.delay (Fixed (Number (pos 0))) c.args.cursor.now (begins-one (AWord After) c.args.cursor.now _ (sym c.if-not-begins_word.ensures))

pub returns : goal.returns
returns c = λ taken.
    let m = meaning_of c.args.names.now in
    is_there (reserved After *> delay_format) m (all_delay_faults c.args.is_two m taken) numbering.delay (Fixed (Number (pos 0))) c.args.cursor.now c.delay.new.cursor (edge_delay_of c.in_ok-delay.delay) (begins-one (AWord After) c.args.cursor.now _ (sym c.if-not-begins_word.ensures))
    (after_a_token delay_format m (all_delay_faults c.args.is_two m taken) numbering.delay (reserved After) c.args.cursor.now c.word.new.self c.delay.new.cursor c.in_ok-word.field-0 (edge_delay_of c.in_ok-delay.delay) c.in_ok-word.ensures.reads (c.in_ok-delay.ensures taken))
