use Rattle.std.proofs.Common.{map, take}
use Rattle.model_core.specs.Code.Views.{expression_of}
use Rattle.model_core.specs.Code.WrittenViews.{written_expression}
use Rattle.model_core.specs.Text.Numbering.{each_numbered, expression}
use Rattle.model_core.specs.Static.Meanings.{meaning_of}
use Rattle.model_core.specs.Static.PartFaults.{values_faults}
use Rattle.static_laws.specs.Checked.{CheckedPart}
use Rattle.sig_types.proofs.changes.values.Given as goal

-- the values before this one are checked
abbrev pub invariant-loop-i : goal.invariant-loop-i
invariant-loop-i l =
    let seen = map written_expression (take l.i l.raws) in
    CheckedPart (meaning_of l.names) l.fn.fault l.fault (values_faults (meaning_of l.names) l.kinds seen) (λ d. each_numbered (expression d) seen) (map expression_of l.values.items)
