-- No fault is found.
use Rattle.std.proofs.Common.{sym, ◌∙◌}
use Rattle.model_core.specs.Static.Meanings.{meaning_of}
use Rattle.model_core.specs.Static.PartFaults.{source_faults}
use Rattle.model_core.specs.Code.WrittenViews.{written_number, written_choice}
use Rattle.static_laws.proofs.EarliestFaults.{earliest_fault-none}
use Rattle.one_pass.proofs.changes.checked.Goals as goal

pub returns : goal.returns
returns c =
    let check = c.source-source.ensures in
    let found = rw c.new-fault.ensures at check.earliest in
    let none = earliest_fault-none (source_faults (meaning_of c.args.names.now) (written_number c.args.raw.now.stream) (written_choice c.args.raw.now.choice)) (sym found ∙ c.in_ok-refuse_fault.ensures.none_found) in
    let holds = check.unbroken none in
    record { unbroken = none; is_stream = holds.0; numbers = holds.1 }
