use Rattle.model_core.specs.Static.Meanings.{meaning_of}
use Rattle.model_core.specs.Code.WrittenViews.{written_expression, written_target}
use Rattle.sig_types.proofs.ChangeParts.{is_some-map, target_checked}
use Rattle.sig_types.proofs.changes.target.Goals as goal

pub returns-clause-checked : goal.returns-clause-checked
returns-clause-checked c = target_checked (meaning_of c.args.names.now) _ _ _ (written_target c.args.raw.now) _ _ _ (is_some-map written_expression c.args.raw.now.index c.is_some.result c.is_some.ensures) c.variable-var.ensures.checked c.in_ok-index.ensures
