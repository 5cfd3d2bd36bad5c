use Rattle.std.specs.Option.{option_map}
use Rattle.model_core.specs.Code.WrittenViews.{written_delay, written_number}
use Rattle.model_core.specs.Static.Meanings.{meaning_of}
use Rattle.sig_types.proofs.EdgeParts.{schedule_checked}
use Rattle.sig_types.proofs.edges.form.Goals as goal

pub returns-in_ok-delay-in-Schedule : goal.returns-in_ok-delay-in-Schedule
returns-in_ok-delay-in-Schedule c =
    λ taken. rw c.in-Schedule.is (schedule_checked (meaning_of c.args.names.now) taken _ _ _ (option_map written_delay c.in-Schedule.delay) (option_map written_number c.in-Schedule.priority) _ _ (c.in_ok-delay-in-Schedule.ensures taken) c.priority_of-priority.ensures)
