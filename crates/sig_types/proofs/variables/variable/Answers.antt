use Rattle.std.proofs.Common.{rules, w64}
use Rattle.std.proofs.lemmas.Int.{to_z-of_z}
use Rattle.model_core.specs.Code.WrittenViews.{written_variable}
use Rattle.sig_types.proofs.VariableParts.{variable_checked}
use Rattle.sig_types.proofs.variables.variable.Goals as goal

pub returns : goal.returns
returns c =
    rw (to_z-of_z w64 c.range_of-range.result.lo (search rules), to_z-of_z w64 c.range_of-range.result.hi (search rules), to_z-of_z w64 c.range_of-range.result.initial (search rules))
    (variable_checked _ c.report_long_name.new.fault c.size-size.new.fault _ (written_variable c.args.raw) c.size-size.result c.range_of-range.result c.report_long_name.ensures c.size-size.ensures c.range_of-range.ensures)
