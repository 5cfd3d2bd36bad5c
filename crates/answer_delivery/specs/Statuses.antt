-- How the program ends: its status, and the line on the error output.
use Rattle.std.specs.Prelude.{ℕ, List, [], codes}
use Rattle.answer_delivery.specs.declared.answer.Answer.{Answer}
use Rattle.answer_delivery.specs.declared.answer.Answer.TheVariants.{Given, Refused}
use Rattle.answer_delivery.specs.declared.status.Status.{Status}
use Rattle.answer_delivery.specs.declared.status.Status.TheVariants as statuses
use Rattle.answer_delivery.specs.declared.status.End.{End}
use Rattle.answer_delivery.specs.declared.status.End.TheVariants as ends
use Rattle.answer_delivery.specs.declared.status.Refusal.{Refusal}
use Rattle.answer_delivery.specs.declared.status.Refusal.TheVariants as refusals
use Rattle.answer_delivery.specs.declared.status.Failure.{Failure}
use Rattle.answer_delivery.specs.declared.status.Failure.TheVariants as failures

-- the exit status of the program
abbrev pub exit_status_of : Status → ℕ
exit_status_of statuses.Done = 0
exit_status_of statuses.Refused = 1
exit_status_of statuses.Usage = 2
exit_status_of statuses.ReadFault = 3
exit_status_of statuses.WriteFault = 4
exit_status_of statuses.NoMemory = 5
exit_status_of statuses.ModelFault = 6
exit_status_of statuses.Budget = 7
exit_status_of statuses.Rejected = 8
exit_status_of statuses.BadStart = 9
exit_status_of statuses.Finished = 10
exit_status_of statuses.TooLarge = 11
exit_status_of statuses.Differs = 12
exit_status_of statuses.Unknown = 13

-- the status of a job that writes
abbrev pub status_of_end : End → Status
status_of_end ends.Done = statuses.Done
status_of_end ends.ModelFault = statuses.ModelFault
status_of_end ends.Budget = statuses.Budget
status_of_end ends.Rejected = statuses.Rejected
status_of_end ends.Differs = statuses.Differs
status_of_end ends.Unknown = statuses.Unknown

-- the status of a refusal
abbrev pub status_of_refusal : Refusal → Status
status_of_refusal refusals.Refused = statuses.Refused
status_of_refusal refusals.BadStart = statuses.BadStart
status_of_refusal refusals.Finished = statuses.Finished
status_of_refusal refusals.TooLarge = statuses.TooLarge

-- the line that says why there is no answer
abbrev pub failure_line : Failure → List ℕ
failure_line failures.Usage = codes "sigma: bad command line\n"
failure_line failures.ReadFault = codes "sigma: cannot read\n"
failure_line failures.WriteFault = codes "sigma: cannot write\n"
failure_line failures.NoMemory = codes "sigma: out of memory\n"

-- the status of an answer
abbrev pub status_of_answer : Answer → Status
status_of_answer (Given end bytes) = status_of_end end
status_of_answer (Refused why line) = status_of_refusal why

-- the bytes of an answer for the output
abbrev pub bytes_of_answer : Answer → List ℕ
bytes_of_answer (Given end bytes) = bytes
bytes_of_answer (Refused why line) = []
