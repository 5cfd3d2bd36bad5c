-- The status of a call that has no answer. The table of statuses says it row by row.
use Rattle.answer_delivery.specs.declared.status.Failure.{Failure}
use Rattle.answer_delivery.specs.declared.status.Failure.TheVariants as failures
use Rattle.answer_delivery.specs.declared.status.Status.{Status}
use Rattle.answer_delivery.specs.declared.status.Status.TheVariants as statuses

-- the status where there is no answer
abbrev pub status_of_failure : Failure → Status
status_of_failure failures.Usage = statuses.Usage
status_of_failure failures.ReadFault = statuses.ReadFault
status_of_failure failures.WriteFault = statuses.WriteFault
status_of_failure failures.NoMemory = statuses.NoMemory
