-- A device of a call over bytes fails only where its room is full.
use Rattle.std.proofs.Common.{◌≡◌, ◌⊎◌, inl, inr, ℕ, ◌<◌, List, [], Some, length, ap, arith}
use Rattle.sig_base.specs.Faults.{HasRisen}
use Rattle.sig_base.specs.Sink.{Outlet}
use Rattle.answer_delivery.specs.declared.status.Status.TheVariants as statuses
use Rattle.answer_delivery.specs.declared.status.Failure.{Failure}
use Rattle.answer_delivery.specs.declared.status.Failure.TheVariants as failures
use Rattle.answer_delivery.specs.FailureStatus.{status_of_failure}
use Rattle.answer_delivery.specs.Statuses.{failure_line}
use Rattle.sigma_top.specs.StatusTable.{ReportsLine}
use Rattle.sigma_page.specs.PageCall.{EndsOverBytes, FailsOnlyIfFull, outlet_of}

-- a count that has risen from 0 is above it
above_none : (faults : ℕ) → HasRisen 0 faults → 0 < faults
above_none faults (inl above) = above
above_none faults (inr last) = absurd (omega (arith, last.0))

-- the same bytes
taken_once : (o : Outlet) (a b : List ℕ) → o.written ≡ Some a → o.written ≡ Some b → a ≡ b
taken_once o a b first second = cc

line_or_full : (after : Outlet) (errors line : List ℕ) (room : ℕ) → after.written ≡ Some errors → FailsOnlyIfFull after.faults errors room
    → ReportsLine (outlet_of []) after line → (length errors ≡ room) ⊎ (errors ≡ line)
line_or_full after errors line room taken full (inl failed) = inl (full (above_none after.faults failed))
line_or_full after errors line room taken full (inr grown) = inr (taken_once after errors line taken grown)

module _ (words : List (List ℕ)) (input output errors : List ℕ) (room errors_room : ℕ) where
  pub no_read_fails : EndsOverBytes words input room errors_room output errors statuses.ReadFault → ⊥
  no_read_fails h =
      let failed : HasRisen 0 h.input_after.faults = h.ends.0.2.input_failed in
      omega (arith, above_none h.input_after.faults failed, h.input_sure)

  pub output_is_full : EndsOverBytes words input room errors_room output errors statuses.WriteFault → length output ≡ room
  output_is_full h = h.output_sure (above_none h.output_after.faults h.ends.0.2.output_failed)

  pub line_is_exact : (failure : Failure) → EndsOverBytes words input room errors_room output errors (status_of_failure failure)
      → (length errors ≡ errors_room) ⊎ (errors ≡ failure_line failure)
  line_is_exact failures.Usage h = line_or_full h.errors_after errors (failure_line failures.Usage) errors_room h.errors_taken h.errors_sure h.ends.3
  line_is_exact failures.ReadFault h = line_or_full h.errors_after errors (failure_line failures.ReadFault) errors_room h.errors_taken h.errors_sure h.ends.1
  line_is_exact failures.WriteFault h = line_or_full h.errors_after errors (failure_line failures.WriteFault) errors_room h.errors_taken h.errors_sure h.ends.1
  line_is_exact failures.NoMemory h = line_or_full h.errors_after errors (failure_line failures.NoMemory) errors_room h.errors_taken h.errors_sure h.ends.1

  pub no_line : EndsOverBytes words input room errors_room output errors statuses.Done → errors ≡ []
  no_line h = taken_once h.errors_after errors [] h.errors_taken (ap (λ (o : Outlet). o.written) h.ends.1)
