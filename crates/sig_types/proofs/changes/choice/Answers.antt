use Rattle.std.proofs.Common.{rules, w64}
use Rattle.std.proofs.lemmas.Int.{to_z-of_z}
use Rattle.model_core.specs.Code.WrittenViews.{written_signed}
use Rattle.model_core.specs.Static.Meanings.{meaning_of}
use Rattle.sig_types.proofs.ChangeParts.{uniform_checked}
use Rattle.sig_types.proofs.changes.choice.Goals as goal

pub returns-in-Uniform : goal.returns-in-Uniform
returns-in-Uniform c =
    rw (c.in-Uniform.is, to_z-of_z w64 c.literal-least.result (search rules), to_z-of_z w64 c.literal-most.result (search rules))
    (uniform_checked (meaning_of c.args.names.now) _ c.literal-least.new.fault c.literal-most.new.fault c.report_empty_range.new.fault _ (written_signed c.in-Uniform.lo) (written_signed c.in-Uniform.hi) _ _ c.literal-least.ensures c.literal-most.ensures c.report_empty_range.ensures c.report_wide_range.ensures)
