-- The clauses of the steps of a call: taking the text, doing the job of the words, reporting how that ended.
use Rattle.std.specs.Prelude.{◌≡◌, ◌⊎◌, ℕ, List, Option, None, Result, Ok, Err, IfSome, IsSome}
use Rattle.sig_base.specs.Faults.{HasRisen}
use Rattle.sig_base.specs.Sink.{Outlet}
use Rattle.sig_base.specs.Source.{Inlet}
use Rattle.command_words.specs.declared.reading.Reading.{Reading}
use Rattle.command_words.specs.Jobs.{job_of}
use Rattle.answer_delivery.specs.declared.delivering.DeliveryOutcome.{DeliveryOutcome}
use Rattle.answer_delivery.specs.declared.delivering.DeliveryOutcome.TheVariants as said
use Rattle.answer_delivery.specs.declared.status.Failure.{Failure}
use Rattle.answer_delivery.specs.declared.status.Failure.TheVariants as failures
use Rattle.answer_delivery.specs.declared.status.Status.{Status}
use Rattle.answer_delivery.specs.FailureStatus.{status_of_failure}
use Rattle.answer_delivery.specs.Statuses.{failure_line, status_of_end, status_of_refusal}
use Rattle.job_answers.specs.Answers.{IsWithin, IsOver}
use Rattle.sigma_top.specs.declared.text_taking.TakenText.{TakenText}
use Rattle.sigma_top.specs.declared.text_taking.TakenText.TheVariants as taken
use Rattle.sigma_top.specs.StatusTable.{text_of, ReportsLine, IsReadToEnd, IsReadThrough, IsReadInPart, WritesAnswer, Refuses, FailsToRead, FailsToWrite, LacksMemory, ForJob}

-- what taking a text, up to a limit, did to the input
abbrev pub TakesText : {S : Type 0} → (S → Inlet) → Option ℕ → Result TakenText Failure → S → S → Type 0
TakesText seen limit (Ok (taken.Whole text)) i j =
    IfSome (text_of limit (seen i).left) (λ bytes. text ≡ bytes) × IsWithin limit text × IsReadToEnd seen limit i j × ((seen j).faults ≡ (seen i).faults)
TakesText seen limit (Ok taken.TooLong) i j = IfSome (text_of limit (seen i).left) (IsOver limit) × IsReadThrough seen limit i j × ((seen j).faults ≡ (seen i).faults)
TakesText seen limit (Err failures.ReadFault) i j = IsSome limit × IsReadInPart seen limit i j × HasRisen (seen i).faults (seen j).faults
TakesText seen limit (Err failures.NoMemory) i j = IsReadInPart seen limit i j × ((seen j).faults ≡ (seen i).faults)
TakesText seen limit (Err e) i j = ⊥

module _ {S K : Type 0} (source : S → Inlet) (sink : K → Outlet) where
  -- what doing the job did: a row of the table, but for the line on the error output
  abbrev pub AnswersInput : Reading → Result DeliveryOutcome Failure → S → S → K → K → Type 0
  AnswersInput reading (Ok (said.Gave end)) i j o p = WritesAnswer source sink reading end i j o p
  AnswersInput reading (Ok (said.Refused why line)) i j o p = Refuses source sink reading why line i j o p
  AnswersInput reading (Err failures.ReadFault) i j o p = FailsToRead source sink reading i j o p
  AnswersInput reading (Err failures.WriteFault) i j o p = FailsToWrite source sink reading i j o p
  AnswersInput reading (Err failures.NoMemory) i j o p = LacksMemory source sink reading i j o p
  AnswersInput reading (Err failures.Usage) i j o p = ⊥

  -- what doing the job of the words did
  abbrev pub AnswersWords : List (List ℕ) → Result DeliveryOutcome Failure → S → S → K → K → Type 0
  AnswersWords words (Err failures.Usage) i j o p = (job_of words ≡ None) × (j ≡ i) × (p ≡ o)
  AnswersWords words (Err failures.NoMemory) i j o p = ((j ≡ i) × (p ≡ o)) ⊎ ForJob words (λ reading. AnswersInput reading (Err failures.NoMemory) i j o p)
  AnswersWords words result i j o p = ForJob words (λ reading. AnswersInput reading result i j o p)

-- the status is that of what was answered; the line that says why the job isn't done, if it isn't, was written
abbrev pub Reports : {E : Type 0} → (E → Outlet) → Result DeliveryOutcome Failure → E → E → Status → Type 0
Reports seen (Ok (said.Gave end)) e f status = (f ≡ e) × (status ≡ status_of_end end)
Reports seen (Ok (said.Refused why line)) e f status = ReportsLine (seen e) (seen f) line × (status ≡ status_of_refusal why)
Reports seen (Err failure) e f status = ReportsLine (seen e) (seen f) (failure_line failure) × (status ≡ status_of_failure failure)
