use Rattle.std.proofs.Common.{map}
use Rattle.model_core.specs.Code.Views.{location_of}
use Rattle.model_core.specs.Code.WrittenViews.{written_expression, written_target}
use Rattle.model_core.specs.Static.Meanings.{meaning_of}
use Rattle.sig_types.proofs.ChangeParts.{one_stored}
use Rattle.sig_types.proofs.changes.set_one.Goals as goal

pub returns : goal.returns
returns c =
    rw c.in_ok-targets.ensures
    (one_stored (meaning_of c.args.names.now) _ _ _ (written_target c.args.raw.now) (map written_expression c.args.raws.now) (location_of c.in_ok-typed.typed.part) _ _
    c.in_ok-typed.ensures.kind c.in_ok-typed.ensures.checked c.in_ok-values.ensures)
