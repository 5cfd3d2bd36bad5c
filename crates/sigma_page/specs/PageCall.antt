-- What a call over bytes in memory did.
use Rattle.std.specs.Prelude.{◌≡◌, ◌<◌, ◌≤◌, ◌⊎◌, ℕ, false, List, [], Some, length, take, All, IsUtf8}
use Rattle.sig_base.specs.Sink.{Outlet}
use Rattle.sig_base.specs.Source.{Inlet}
use Rattle.answer_delivery.specs.declared.status.Status.{Status}
use Rattle.answer_delivery.specs.declared.status.Status.TheVariants as statuses
use Rattle.answer_delivery.specs.declared.status.Failure.TheVariants as failures
use Rattle.answer_delivery.specs.Statuses.{exit_status_of, failure_line}
use Rattle.sigma_top.specs.Promises.{KeepsPromises}
use Rattle.sigma_top.specs.StatusTable.{Ends}
use Rattle.sigma_page.specs.declared.rooms.Lengths.{Lengths}
use Rattle.sigma_page.specs.PageWords.{ended_words}

-- an input that has these bytes left
abbrev pub inlet_of : List ℕ → Inlet
inlet_of bytes = record { left = Some bytes; faults = 0 }

-- an output that has taken these bytes
abbrev pub outlet_of : List ℕ → Outlet
outlet_of bytes = record { written = Some bytes; faults = 0; settled = false }

-- a write failed only if these bytes fill a room of this size
abbrev pub FailsOnlyIfFull : ℕ → List ℕ → ℕ → Type 0
FailsOnlyIfFull faults bytes size = 0 < faults → length bytes ≡ size

-- With these words and this input, a call wrote this output and this error output, both from nothing and into rooms of these
-- sizes, and ended with this status.
pub record EndsOverBytes (words : List (List ℕ)) (input : List ℕ) (output_size errors_size : ℕ) (output errors : List ℕ)
    (status : Status) : Type 0 where
  pub input_after : Inlet
  pub output_after : Outlet
  pub errors_after : Outlet
  pub output_taken : output_after.written ≡ Some output
  pub errors_taken : errors_after.written ≡ Some errors
  -- no read failed
  pub input_sure : input_after.faults ≡ 0
  pub output_sure : FailsOnlyIfFull output_after.faults output output_size
  pub errors_sure : FailsOnlyIfFull errors_after.faults errors errors_size
  -- what the status means
  pub ends : Ends (λ i. i) (λ o. o) (λ e. e) words
      (inlet_of input) input_after (outlet_of []) output_after (outlet_of []) errors_after status
  -- what each job is for
  pub promises : KeepsPromises (λ s. status ≡ s) words (inlet_of input) (outlet_of []) (outlet_of output)

-- there are so many of these bytes, and where they fit into the room, it begins with them
abbrev pub IsLaid : List ℕ → ℕ → List ℕ → Type 0
IsLaid bytes count room = (count ≡ length bytes) × (count ≤ length room → take count room ≡ bytes)

-- a call ended with this status, and all that it wrote is laid into the rooms
pub record LaysAnswer (words : List (List ℕ)) (input : List ℕ) (status : Status)
    (lengths : Lengths) (output_room errors_room : List ℕ) : Type 0 where
  pub output : List ℕ
  pub errors : List ℕ
  pub ends : EndsOverBytes words input (length output_room) (length errors_room) output errors status
  pub output_laid : IsLaid output lengths.output output_room
  pub errors_laid : IsLaid errors lengths.errors errors_room

-- a word isn't UTF-8, and the call is refused as bad words are
abbrev pub RefusesWords : List (List ℕ) → ℕ → Lengths → List ℕ → List ℕ → Type 0
RefusesWords words number lengths output_room errors_room =
    (All IsUtf8 words → ⊥) × (number ≡ exit_status_of statuses.Usage)
    × IsLaid [] lengths.output output_room × IsLaid (failure_line failures.Usage) lengths.errors errors_room

-- what a call did with the bytes of its words and its input: with which number it ended, and what lies in the rooms
abbrev pub AnswersBytes : List ℕ → List ℕ → ℕ → Lengths → List ℕ → List ℕ → Type 0
AnswersBytes words input number lengths output_room errors_room =
    ((status : Status) × (number ≡ exit_status_of status)
    × LaysAnswer (ended_words words) input status lengths output_room errors_room)
    ⊎ RefusesWords (ended_words words) number lengths output_room errors_room
