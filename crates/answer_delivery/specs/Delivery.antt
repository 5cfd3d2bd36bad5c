-- How an answer gets to the output. Nothing is said here of which answer it is.
use Rattle.std.specs.Prelude.{◌≡◌, ◌<◌, ◌⊎◌, ℕ, true, false, List, length, Result, Ok, Err}
use Rattle.sig_base.specs.Faults.{HasRisen}
use Rattle.sig_base.specs.Sink.{Outlet, GrowsBy}
use Rattle.answer_delivery.specs.declared.answer.Answer.{Answer}
use Rattle.answer_delivery.specs.declared.answer.Answer.TheVariants.{Given, Refused}
use Rattle.answer_delivery.specs.declared.delivering.DeliveryOutcome.{DeliveryOutcome}
use Rattle.answer_delivery.specs.declared.delivering.DeliveryOutcome.TheVariants as said
use Rattle.answer_delivery.specs.declared.status.Failure.{Failure}
use Rattle.answer_delivery.specs.declared.status.Failure.TheVariants as failures
use Rattle.answer_delivery.specs.FrontWritten.{GrowsByFront}

-- all of the bytes were written and finished
pub record Finishes (bytes : List ℕ) (old new : Outlet) : Type 0 where
  pub grown : GrowsBy old.written new.written bytes
  pub settled : new.settled ≡ true
  pub steady : new.faults ≡ old.faults

-- a write failed, or finishing did, after a front of the bytes
pub record BreaksOff (bytes : List ℕ) (old new : Outlet) : Type 0 where
  pub grown : GrowsByFront old new bytes
  pub unsettled : 0 < length bytes → new.settled ≡ false
  pub failed : HasRisen old.faults new.faults

-- memory was refused after a front of the bytes
pub record StopsShort (bytes : List ℕ) (old new : Outlet) : Type 0 where
  pub grown : GrowsByFront old new bytes
  pub steady : new.faults ≡ old.faults

-- What delivering an answer, as it came or at once, did to the output: its bytes were written, or the first of them; of a
-- refusal nothing is written.
abbrev pub Delivers : {K : Type 0} → (K → Outlet) → Answer → Result DeliveryOutcome Failure → K → K → Type 0
Delivers seen (Given end bytes) (Ok (said.Gave other)) o p = (other ≡ end) × Finishes bytes (seen o) (seen p)
Delivers seen (Given end bytes) (Err failures.WriteFault) o p = BreaksOff bytes (seen o) (seen p)
Delivers seen (Given end bytes) (Err failures.NoMemory) o p = StopsShort bytes (seen o) (seen p)
Delivers seen (Refused why line) (Ok (said.Refused other shown)) o p = (other ≡ why) × (shown ≡ line) × (p ≡ o)
Delivers seen answer result o p = ⊥

-- An answer of which P holds is delivered. Memory may be refused after a front of it where the last fact holds.
pub record DeliversOne {K : Type 0} (seen : K → Outlet) (P : Answer → Type 0) (Short : Type 0) (result : Result DeliveryOutcome Failure) (o p : K) : Type 0 where
  pub answer : Answer
  pub holds : P answer
  pub delivers : Delivers seen answer result o p
  pub short : result ≡ Err failures.NoMemory → (p ≡ o) ⊎ Short

-- the same, or memory is refused before there is an answer, and the output is as it was
abbrev pub DeliversSome : {K : Type 0} → (K → Outlet) → (Answer → Type 0) → Type 0 → Result DeliveryOutcome Failure → K → K → Type 0
DeliversSome seen P Short result o p = DeliversOne seen P Short result o p ⊎ ((result ≡ Err failures.NoMemory) × (p ≡ o))
