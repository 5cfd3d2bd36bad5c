-- The table of statuses: how the answer to the input gets to the output, and what is left where it doesn't. It says nothing
-- about what the jobs answer.
use Rattle.std.specs.Prelude.{◌≡◌, ◌≤◌, ◌⊎◌, ℕ, ◌+◌, true, false, List, drop, [], Option, Some, None, IfSome, IsSome}
use Rattle.sig_base.specs.Faults.{HasRisen}
use Rattle.sig_base.specs.Sink.{Outlet, GrowsBy}
use Rattle.sig_base.specs.Source.{Inlet}
use Rattle.command_words.specs.declared.job.Job.{Job}
use Rattle.command_words.specs.declared.reading.Reading.{Reading}
use Rattle.command_words.specs.Jobs.{job_of}
use Rattle.command_words.specs.Readings.{reading_of, limit_of}
use Rattle.answer_delivery.specs.declared.answer.Answer.{Answer}
use Rattle.answer_delivery.specs.declared.answer.Answer.TheVariants.{Given, Refused}
use Rattle.answer_delivery.specs.declared.status.Status.{Status}
use Rattle.answer_delivery.specs.declared.status.Status.TheVariants as statuses
use Rattle.answer_delivery.specs.declared.status.End.{End}
use Rattle.answer_delivery.specs.declared.status.End.TheVariants as ends
use Rattle.answer_delivery.specs.declared.status.Refusal.{Refusal}
use Rattle.answer_delivery.specs.declared.status.Refusal.TheVariants as refusals
use Rattle.answer_delivery.specs.declared.status.Failure.{Failure}
use Rattle.answer_delivery.specs.declared.status.Failure.TheVariants as failures
use Rattle.job_answers.specs.Answers.{Answers, MayStopShort, HasNothingToWrite}
use Rattle.answer_delivery.specs.FrontWritten.{GrowsByFront}
use Rattle.answer_delivery.specs.Statuses.{failure_line}

-- ---- reading, up to a limit; a job that reads no text has none, and leaves the input alone

-- the text: all that the input has left
abbrev pub text_of : Option ℕ → Option (List ℕ) → Option (List ℕ)
text_of None left = Some []
text_of (Some limit) left = left

-- the input was read to its end
abbrev pub IsReadToEnd : {S : Type 0} → (S → Inlet) → Option ℕ → S → S → Type 0
IsReadToEnd seen None old new = new ≡ old
IsReadToEnd seen (Some limit) old new = IfSome (seen old).left (λ bytes. (seen new).left ≡ Some [])

-- the input was read to its end, or else to exactly one byte past the limit
abbrev pub IsReadThrough : {S : Type 0} → (S → Inlet) → Option ℕ → S → S → Type 0
IsReadThrough seen None old new = new ≡ old
IsReadThrough seen (Some limit) old new = IfSome (seen old).left (λ bytes. (seen new).left ≡ Some (drop (limit + 1) bytes))

-- bytes were taken from the front of the input, never more than one past the limit, and the rest is left
abbrev pub IsReadInPart : {S : Type 0} → (S → Inlet) → Option ℕ → S → S → Type 0
IsReadInPart seen None old new = new ≡ old
IsReadInPart seen (Some limit) old new = IfSome (seen old).left (λ bytes. (n : ℕ) × (n ≤ limit + 1) × ((seen new).left ≡ Some (drop n bytes)))

-- ---- the ways to end: with the input from i to j and the output from o to p, of which this is seen

-- this is the answer to the input's text, or to some text where the input gives none
pub record RepliesToInput (reading : Reading) (i : Inlet) (a : Answer) : Type 0 where
  pub text : List ℕ
  pub of_input : IfSome (text_of (limit_of reading) i.left) (λ bytes. text ≡ bytes)
  pub answers : Answers reading text a

module _ {S K : Type 0} (source : S → Inlet) (sink : K → Outlet) (reading : Reading) where
  -- All of the answer's bytes are written, and finished.
  pub record WritesAnswer (end : End) (i j : S) (o p : K) : Type 0 where
    pub bytes : List ℕ
    pub answer : RepliesToInput reading (source i) (Given end bytes)
    pub input_read : IsReadToEnd source (limit_of reading) i j
    pub input_steady : (source j).faults ≡ (source i).faults
    pub output_grown : GrowsBy (sink o).written (sink p).written bytes
    pub output_settled : (sink p).settled ≡ true
    pub output_steady : (sink p).faults ≡ (sink o).faults

  -- The text is refused. Nothing is written.
  pub record Refuses (why : Refusal) (line : List ℕ) (i j : S) (o p : K) : Type 0 where
    pub answer : RepliesToInput reading (source i) (Refused why line)
    pub input_read : IsReadThrough source (limit_of reading) i j
    pub input_steady : (source j).faults ≡ (source i).faults
    pub output_untouched : p ≡ o

  -- A read failed. Nothing is written.
  pub record FailsToRead (i j : S) (o p : K) : Type 0 where
    pub reads_text : IsSome (limit_of reading)
    pub input_read : IsReadInPart source (limit_of reading) i j
    pub input_failed : HasRisen (source i).faults (source j).faults
    pub output_untouched : p ≡ o

  -- a front of the answer was written
  pub record WritesAnswerFront (i : S) (o p : K) : Type 0 where
    pub end : End
    pub bytes : List ℕ
    pub answer : RepliesToInput reading (source i) (Given end bytes)
    pub output_grown : GrowsByFront (sink o) (sink p) bytes

  -- A write failed, or finishing did. The input was read, and a front of its answer was written; the output isn't finished,
  -- unless there was nothing to write.
  pub record FailsToWrite (i j : S) (o p : K) : Type 0 where
    pub front : WritesAnswerFront i o p
    pub input_read : IsReadToEnd source (limit_of reading) i j
    pub input_steady : (source j).faults ≡ (source i).faults
    pub output_unsettled : HasNothingToWrite reading front.bytes ⊎ ((sink p).settled ≡ false)
    pub output_failed : HasRisen (sink o).faults (sink p).faults

  -- Memory was refused. A job that may stop short has perhaps written a front of its answer.
  pub record LacksMemory (i j : S) (o p : K) : Type 0 where
    pub input_read : IsReadInPart source (limit_of reading) i j
    pub input_steady : (source j).faults ≡ (source i).faults
    pub output_grown : (p ≡ o) ⊎ ((front : WritesAnswerFront i o p) × MayStopShort reading front.answer.text)
    pub output_steady : (sink p).faults ≡ (sink o).faults

-- ---- the table of statuses

-- the words ask for a job, and this holds of what it reads and asks
abbrev pub ForJob : List (List ℕ) → (Reading → Type 0) → Type 0
ForJob words Holds = (job : Job) × (job_of words ≡ Some job) × Holds (reading_of job)

-- the error output grew by this line, unless a write of it failed
abbrev pub ReportsLine : Outlet → Outlet → List ℕ → Type 0
ReportsLine old new line = HasRisen old.faults new.faults ⊎ GrowsBy old.written new.written line

-- What a call with these words did: to the input from i to j, to the output from o to p, and to the error output from e
-- to f, of which this is seen.
module _ {S K E : Type 0} (source : S → Inlet) (sink : K → Outlet) (errors : E → Outlet) where
  module _ (words : List (List ℕ)) (i j : S) (o p : K) (e f : E) where
    -- the answer was written, and no line
    abbrev pub EndsWithAnswer : End → Type 0
    EndsWithAnswer end = ForJob words (λ reading. WritesAnswer source sink reading end i j o p) × (f ≡ e)

    -- the text was refused, and the line that says why was written
    abbrev pub EndsWithRefusal : Refusal → Type 0
    EndsWithRefusal why =
        (line : List ℕ) × ForJob words (λ reading. Refuses source sink reading why line i j o p)
        × ReportsLine (errors e) (errors f) line

    -- the line of the failure was written
    abbrev pub EndsWithFailure : Failure → Type 0
    EndsWithFailure failure = ReportsLine (errors e) (errors f) (failure_line failure)

    -- what the call did that ended with this status
    abbrev pub Ends : Status → Type 0
    Ends statuses.Done = EndsWithAnswer ends.Done
    Ends statuses.Refused = EndsWithRefusal refusals.Refused
    Ends statuses.Usage = (job_of words ≡ None) × (j ≡ i) × (p ≡ o) × EndsWithFailure failures.Usage
    Ends statuses.ReadFault =
        ForJob words (λ reading. FailsToRead source sink reading i j o p) × EndsWithFailure failures.ReadFault
    Ends statuses.WriteFault =
        ForJob words (λ reading. FailsToWrite source sink reading i j o p) × EndsWithFailure failures.WriteFault
    Ends statuses.NoMemory =
        (((j ≡ i) × (p ≡ o)) ⊎ ForJob words (λ reading. LacksMemory source sink reading i j o p))
        × EndsWithFailure failures.NoMemory
    Ends statuses.ModelFault = EndsWithAnswer ends.ModelFault
    Ends statuses.Budget = EndsWithAnswer ends.Budget
    Ends statuses.Rejected = EndsWithAnswer ends.Rejected
    Ends statuses.BadStart = EndsWithRefusal refusals.BadStart
    Ends statuses.Finished = EndsWithRefusal refusals.Finished
    Ends statuses.TooLarge = EndsWithRefusal refusals.TooLarge
    Ends statuses.Differs = EndsWithAnswer ends.Differs
    Ends statuses.Unknown = EndsWithAnswer ends.Unknown
