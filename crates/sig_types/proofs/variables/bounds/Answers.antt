use Rattle.std.proofs.Common.{rules, w64}
use Rattle.std.proofs.lemmas.Int.{to_z-of_z}
use Rattle.model_core.specs.Code.WrittenViews.{written_signed, written_literal}
use Rattle.sig_types.proofs.VariableParts.{bounds_checked}
use Rattle.sig_types.proofs.variables.bounds.Goals as goal

pub returns : goal.returns
returns c =
    rw (to_z-of_z w64 c.literal-least.result (search rules), to_z-of_z w64 c.literal-most.result (search rules), to_z-of_z w64 c.initial_number-initial.result (search rules))
    (bounds_checked _ c.literal-least.new.fault c.literal-most.new.fault c.report_empty_range.new.fault _ (written_signed c.args.lo.now) (written_signed c.args.hi.now) c.args.clip (written_literal c.args.raw.now) _ _ _
    c.literal-least.ensures c.literal-most.ensures c.report_empty_range.ensures c.initial_number-initial.ensures)
