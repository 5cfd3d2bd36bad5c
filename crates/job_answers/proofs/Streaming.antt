-- From what was written, and how it was finished, to the answer that was delivered; for answers that are written as they
-- come, and for those that are written at once.
use Rattle.std.proofs.Common.{◌≡◌, ◌≢◌, ◌⊎◌, inl, inr, ℕ, ◌<◌, false, List, length, Option, Some, None, Result, Ok, Err, sym, ◌∙◌, subst, arith}
use Rattle.std.specs.Prelude.{IfOk, MatchResult}
use Rattle.std.proofs.Math.Seq.{take-length}
use Rattle.sig_base.specs.declared.no_memory.NoMemory.{NoMemory}
use Rattle.sig_base.specs.Faults.{HasRisen}
use Rattle.sig_base.specs.Sink.{Outlet, GrowsBy}
use Rattle.sig_base.specs.Source.{Stays}
use Rattle.sig_base.proofs.SinkLemmas.{GrowsBy-nothing}
use Rattle.answer_delivery.specs.declared.delivering.DeliveryOutcome.TheVariants as said
use Rattle.answer_delivery.specs.declared.status.Failure.TheVariants as failures
use Rattle.job_answers.specs.Inner.WritingSteps.{StreamsBytes}
use Rattle.job_answers.proofs.AnswerTerms.{Answer, Given, End, Failure, DeliveryOutcome, Delivers, DeliversSome, GrowsByFront, Closed}

-- ---- the bytes, and finishing after them

grown_until_finished : (old mid new : Option (List ℕ)) (bytes : List ℕ) → GrowsBy old mid bytes → Stays mid new → GrowsBy old new bytes
grown_until_finished None mid new bytes h k = tt
grown_until_finished (Some before) mid new bytes h k = subst (λ (m : Option (List ℕ)). Stays m new) h k

all_in_front : (o p : Outlet) (bytes : List ℕ) → GrowsBy o.written p.written bytes → GrowsByFront o p bytes
all_in_front o p bytes h = (length bytes, omega arith, subst (λ (b : List ℕ). GrowsBy o.written p.written b) (sym (take-length bytes)) h)

-- All bytes of an answer are written from o to m, and the output is finished to p.
pub closed : {K : Type 0} (seen : K → Outlet) (o m p : K) (end : End) (bytes : List ℕ) → GrowsBy (seen o).written (seen m).written bytes → (0 < length bytes → (seen m).settled ≡ false) → (seen m).faults ≡ (seen o).faults
    → (r : Result DeliveryOutcome Failure) → Closed end r (seen m) (seen p) → Delivers seen (Given end bytes) r o p
closed seen o m p end bytes grows unsettled steady (Ok (said.Gave e)) h =
    (h.0, record { grown = grown_until_finished (seen o).written (seen m).written (seen p).written bytes grows h.1; settled = h.2; steady = h.3 ∙ steady })
closed seen o m p end bytes grows unsettled steady (Ok (said.Refused why line)) h = absurd h
closed seen o m p end bytes grows unsettled steady (Err failures.WriteFault) h = record {
  grown = all_in_front (seen o) (seen p) bytes (grown_until_finished (seen o).written (seen m).written (seen p).written bytes grows h.0);
  unsettled = λ some. h.1 ∙ unsettled some;
  failed = subst (λ (n : ℕ). HasRisen n (seen p).faults) steady h.2;
}
closed seen o m p end bytes grows unsettled steady (Err failures.NoMemory) h = absurd h
closed seen o m p end bytes grows unsettled steady (Err failures.Usage) h = absurd h
closed seen o m p end bytes grows unsettled steady (Err failures.ReadFault) h = absurd h

-- finishing lacks no memory
pub closed_in_memory : (end : End) (m p : Outlet) (r : Result DeliveryOutcome Failure) → Closed end r m p → r ≢ Err failures.NoMemory
closed_in_memory end m p r h = λ short. subst (λ (x : Result DeliveryOutcome Failure). Closed end x m p) short h

module _ {K : Type 0} (seen : K → Outlet) (o p : K) (end : End) (bytes : List ℕ) where
  -- the bytes could not be written as they came
  pub stream_fails : (Short : Type 0) (f : Failure) → StreamsBytes seen end bytes Short (Err f) o p → Delivers seen (Given end bytes) (Err f) o p
  stream_fails Short failures.WriteFault h = record { grown = h.0; unsettled = λ some. h.1; failed = h.2 }
  stream_fails Short failures.NoMemory h = record { grown = front h.0; steady = h.1 }
    where
      nothing : (q : K) → q ≡ o → GrowsByFront (seen o) (seen q) bytes
      nothing q same = subst (λ (x : K). GrowsByFront (seen o) (seen x) bytes) (sym same) (0, omega arith, GrowsBy-nothing (seen o).written)

      front : (p ≡ o) ⊎ (Short × GrowsByFront (seen o) (seen p) bytes) → GrowsByFront (seen o) (seen p) bytes
      front (inl same) = nothing p same
      front (inr h) = h.1
  stream_fails Short failures.Usage h = absurd h
  stream_fails Short failures.ReadFault h = absurd h

  -- where memory was refused the output is as it was, or it is allowed
  pub stopped_short : (Short : Type 0) (r : Result End Failure) → StreamsBytes seen end bytes Short r o p → r ≡ Err failures.NoMemory → (p ≡ o) ⊎ Short
  stopped_short Short r h short = elim (subst (λ (x : Result End Failure). StreamsBytes seen end bytes Short x o p) short h).0 [ inl same ↦ inl same | inr more ↦ inr more.0 ]

-- ---- an answer that is made whole

pub delivered : {K : Type 0} (seen : K → Outlet) (P : Answer → Type 0) (Short : Type 0) (o p : K) (made : Result Answer NoMemory) (r : Result DeliveryOutcome Failure) → IfOk made P
    → MatchResult made (λ a. Delivers seen a r o p × (r ≢ Err failures.NoMemory)) (λ e. (r ≡ Err failures.NoMemory) × (p ≡ o)) → DeliversSome seen P Short r o p
delivered seen P Short o p (Ok a) r holds h = inl (record { answer = a; holds = holds; delivers = h.0; short = λ e. absurd (h.1 e) })
delivered seen P Short o p (Err e) r holds h = inr h

-- an answer of which one thing holds is one of which another holds
pub delivers_as : {K : Type 0} (seen : K → Outlet) (P Q : Answer → Type 0) (Short : Type 0) (r : Result DeliveryOutcome Failure) (o p : K) → ((a : Answer) → P a → Q a) → DeliversSome seen P Short r o p → DeliversSome seen Q Short r o p
delivers_as seen P Q Short r o p so (inl one) = inl (record { answer = one.answer; holds = so one.answer one.holds; delivers = one.delivers; short = one.short })
delivers_as seen P Q Short r o p so (inr none) = inr none
