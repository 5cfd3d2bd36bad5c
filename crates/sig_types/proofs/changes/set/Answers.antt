use Rattle.std.proofs.Common.{map}
use Rattle.std.proofs.lemmas.List.{length-map}
use Rattle.model_core.specs.Code.WrittenViews.{written_expression, written_target}
use Rattle.model_core.specs.Static.Meanings.{meaning_of}
use Rattle.sig_types.proofs.ChangeParts.{set_checked}
use Rattle.sig_types.proofs.changes.set.Goals as goal

pub returns : goal.returns
returns c =
    set_checked (meaning_of c.args.names.now) _ _ _ _ c.args.at (map written_target c.args.targets.now) (map written_expression c.args.raws.now) _
    (simp length-map c.note.ensures) c.report_too_many.ensures c.in_ok-change.ensures
