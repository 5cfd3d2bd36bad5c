use Rattle.std.proofs.Common.{sym}
use Rattle.model_core.specs.Code.Views.{edge_of}
use Rattle.model_core.specs.Text.Language.{schedule_format, urgent_format, edge_format}
use Rattle.model_core.specs.Text.Numbering as numbering
use Rattle.model_core.specs.Static.Meanings.{meaning_of}
use Rattle.one_pass.specs.Inner.AllFaults.{all_edge_faults}
use Rattle.one_pass.specs.Inner.ReadParts.{ReadSure}
use Rattle.one_pass.proofs.FormatReads.{still}
use Rattle.one_pass.proofs.EdgesRead.{first_form, second_form}
use Rattle.one_pass.proofs.edges.edge.Goals as goal

pub returns-then-begins_word : goal.returns-then-begins_word
returns-then-begins_word c =
    let m = meaning_of c.args.names.now in
    let faults = all_edge_faults c.args.is_two m c.args.taken.now in
    let before = c.args.cursor.now in
    let after = c.schedule.new.cursor in
    still (λ e. ReadSure schedule_format m faults numbering.edge before after (edge_of e)) (λ e. ReadSure edge_format m faults numbering.edge before after (edge_of e)) c.schedule.result
    (λ e r. first_form m c.args.taken.now c.args.is_two before after (edge_of e) (sym c.if-begins_word.ensures) r) c.schedule.ensures

pub returns-then-begins_word-2 : goal.returns-then-begins_word-2
returns-then-begins_word-2 c =
    let m = meaning_of c.args.names.now in
    let faults = all_edge_faults c.args.is_two m c.args.taken.now in
    let before = c.args.cursor.now in
    let after = c.urgent.new.cursor in
    still (λ e. ReadSure urgent_format m faults numbering.edge before after (edge_of e)) (λ e. ReadSure edge_format m faults numbering.edge before after (edge_of e)) c.urgent.result
    (λ e r. second_form m c.args.taken.now c.args.is_two before after (edge_of e) (sym c.if-begins_word.ensures) (sym c.if-begins_word-2.ensures) r) (c.urgent.ensures c.args.is_two)
