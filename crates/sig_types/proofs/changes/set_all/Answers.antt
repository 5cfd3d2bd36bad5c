use Rattle.std.proofs.Common.{map, ◌∙◌}
use Rattle.model_core.specs.Code.WrittenViews.{written_expression, written_target}
use Rattle.model_core.specs.Static.Meanings.{meaning_of}
use Rattle.sig_types.proofs.ChangeParts.{stored_checked}
use Rattle.sig_types.proofs.changes.set_all.Goals as goal

pub returns : goal.returns
returns c =
    stored_checked (meaning_of c.args.names.now) _ _ _ (map written_target c.args.targets.now) (map written_expression c.args.raws.now) _ _ _
    (c.as_slice.ensures.value ∙ c.in_ok-typed.ensures.kinds) c.in_ok-typed.ensures.checked c.in_ok-values.ensures
