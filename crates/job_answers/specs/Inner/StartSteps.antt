-- The clauses between the steps of beginning a run: why it can't begin.
use Rattle.std.specs.Prelude.{◌≡◌, ℕ, List, Result, Ok, Err}
use Rattle.run_control.specs.declared.begin_error.BeginError.{BeginError}
use Rattle.run_control.specs.declared.begin_error.BeginError.TheVariants as errors
use Rattle.answer_delivery.specs.declared.delivering.DeliveryOutcome.{DeliveryOutcome}
use Rattle.answer_delivery.specs.declared.delivering.DeliveryOutcome.TheVariants as said
use Rattle.answer_delivery.specs.declared.status.Refusal.TheVariants as refusals
use Rattle.answer_delivery.specs.declared.status.Failure.{Failure}
use Rattle.answer_delivery.specs.declared.status.Failure.TheVariants as failures
use Rattle.job_answers.specs.StartingValues.{count_line, outside_line}

-- the line that says why a run can't begin
abbrev pub IsRefusalLine : BeginError → List ℕ → Type 0
IsRefusalLine (errors.StartCount needed given) line = line ≡ count_line needed given
IsRefusalLine (errors.StartOutside place value) line = line ≡ outside_line place value
IsRefusalLine errors.NoMemory line = ⊥

-- the result for a run that can't begin
abbrev pub RefusesToBegin : BeginError → Result DeliveryOutcome Failure → Type 0
RefusesToBegin error (Ok (said.Refused refusals.BadStart line)) = IsRefusalLine error line
RefusesToBegin error (Err failures.NoMemory) = Unit {0}
RefusesToBegin error other = ⊥
