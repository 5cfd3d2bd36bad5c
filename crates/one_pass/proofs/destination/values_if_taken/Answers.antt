use Rattle.std.proofs.Common.{map, sym}
use Rattle.model_core.specs.Code.Views.{expression_of}
use Rattle.model_core.specs.Text.Language.{values_format}
use Rattle.model_core.specs.Text.Numbering.{each_numbered, expression}
use Rattle.model_core.specs.Static.Meanings.{meaning_of}
use Rattle.one_pass.specs.Inner.ReadParts.{ReadSure}
use Rattle.one_pass.specs.Inner.ReadValues.{fitting_faults}
use Rattle.one_pass.specs.Inner.ReadCarried.{ReadGiven}
use Rattle.one_pass.proofs.FormatReads.{still}
use Rattle.one_pass.proofs.CarriedRead.{some_given, none_given}
use Rattle.one_pass.proofs.destination.values_if_taken.Goals as goal

pub returns-then-begins_symbol : goal.returns-then-begins_symbol
returns-then-begins_symbol c =
    let m = meaning_of c.args.names.now in
    let kinds = c.args.kinds.now in
    let before = c.args.cursor.now in
    let after = c.values_in_parentheses.new.cursor in
    still (λ es. ReadSure values_format m (fitting_faults m kinds) (λ d. each_numbered (expression d)) before after (map expression_of es)) (λ es. ReadGiven m kinds before after (map expression_of es)) c.values_in_parentheses.result
    (λ es r. some_given m kinds before after (map expression_of es) (sym c.if-begins_symbol.ensures) r) c.values_in_parentheses.ensures

pub returns : goal.returns
returns c = rw c.new.ensures (none_given (meaning_of c.args.names.now) c.args.kinds.now c.args.cursor.now (sym c.if-begins_symbol.ensures) c.if-kinds-ne0.false)
