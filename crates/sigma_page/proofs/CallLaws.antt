-- From a call over devices in memory to the promises of its bytes.
use Rattle.std.proofs.Common.{◌≡◌, ◌⊎◌, inl, inr, ℕ, false, List, [], Some, length, take, All, IsUtf8, refl, ap, subst, arith}
use Rattle.sig_base.specs.Sink.{Outlet}
use Rattle.sig_base.specs.Source.{Inlet}
use Rattle.answer_delivery.specs.declared.status.Status.{Status}
use Rattle.answer_delivery.specs.declared.status.Status.TheVariants as statuses
use Rattle.answer_delivery.specs.declared.status.Failure.{Failure}
use Rattle.answer_delivery.specs.declared.status.Failure.TheVariants as failures
use Rattle.answer_delivery.specs.FailureStatus.{status_of_failure}
use Rattle.answer_delivery.specs.Statuses.{exit_status_of, failure_line}
use Rattle.sigma_top.specs.Promises.{KeepsPromises}
use Rattle.sigma_top.specs.StatusTable.{Ends}
use Rattle.sigma_page.specs.declared.rooms.Lengths.{Lengths}
use Rattle.sigma_page.specs.PageCall.{EndsOverBytes, FailsOnlyIfFull, IsLaid, AnswersBytes, inlet_of, outlet_of}
use Rattle.sigma_page.specs.PageWords.{ended_words}
use Rattle.sigma_page.proofs.SeenEnds.{ends_as_seen}

-- what is promised of an output is promised of its bytes alone
promises_of_bytes : (words : List (List ℕ)) (i : Inlet) (o p : Outlet) (output : List ℕ) (status : Status) → p.written ≡ Some output
    → KeepsPromises (λ s. status ≡ s) words i o p → KeepsPromises (λ s. status ≡ s) words i o (outlet_of output)
promises_of_bytes words i o p output status is h =
    let same : KeepsPromises (λ s. status ≡ s) words i o (record { written = p.written; faults = 0; settled = false }) = record {
      printed = h.printed;
      reduced = h.reduced;
      fused = h.fused;
      narrowed = h.narrowed;
      saved = h.saved;
      resumed = h.resumed;
      certified = h.certified;
    } in
    subst (λ written. KeepsPromises (λ s. status ≡ s) words i o (record { written = written; faults = 0; settled = false })) is same

module _ {S K E : Type 0} (source : S → Inlet) (sink : K → Outlet) (errors_sink : E → Outlet) (words : List (List ℕ)) (i j : S) (o p : K) (e f : E) (input output errors : List ℕ) (output_size errors_size : ℕ) (status : Status) where
  -- the call over devices, which began with this input and with nothing written
  pub over_bytes : source i ≡ inlet_of input → sink o ≡ outlet_of [] → errors_sink e ≡ outlet_of [] → (sink p).written ≡ Some output → (errors_sink f).written ≡ Some errors
      → (source j).faults ≡ 0 → FailsOnlyIfFull (sink p).faults output output_size → FailsOnlyIfFull (errors_sink f).faults errors errors_size
      → Ends source sink errors_sink words i j o p e f status → KeepsPromises (λ s. status ≡ s) words (source i) (sink o) (sink p) → EndsOverBytes words input output_size errors_size output errors status
  over_bytes begun fresh silent taken errors_are sure output_full errors_full ends kept = record {
    input_after = source j;
    output_after = sink p;
    errors_after = errors_sink f;
    output_taken = taken;
    errors_taken = errors_are;
    input_sure = sure;
    output_sure = output_full;
    errors_sure = errors_full;
    ends = subst (λ (x : Inlet). Ends (λ i. i) (λ o. o) (λ e. e) words x (source j) (outlet_of []) (sink p) (outlet_of []) (errors_sink f) status) begun
        (subst (λ (x : Outlet). Ends (λ i. i) (λ o. o) (λ e. e) words (source i) (source j) x (sink p) (outlet_of []) (errors_sink f) status) fresh
        (subst (λ (x : Outlet). Ends (λ i. i) (λ o. o) (λ e. e) words (source i) (source j) (sink o) (sink p) x (errors_sink f) status) silent
        (ends_as_seen source sink errors_sink words i j o p e f status ends)));
    promises = promises_of_bytes words (inlet_of input) (outlet_of []) (sink p) output status taken
        (subst (λ (x : Inlet). KeepsPromises (λ s. status ≡ s) words x (outlet_of []) (sink p)) begun
        (subst (λ (x : Outlet). KeepsPromises (λ s. status ≡ s) words (source i) x (sink p)) fresh kept));
  }

-- a call that has no memory to begin with
pub without_memory : (words : List (List ℕ)) (input : List ℕ) (output_size errors_size : ℕ) → EndsOverBytes words input output_size errors_size [] (failure_line failures.NoMemory) statuses.NoMemory
without_memory words input output_size errors_size = record {
  input_after = inlet_of input;
  output_after = outlet_of [];
  errors_after = outlet_of (failure_line failures.NoMemory);
  output_taken = refl;
  errors_taken = refl;
  input_sure = refl;
  output_sure = λ failed. absurd (omega (arith, failed));
  errors_sure = λ failed. absurd (omega (arith, failed));
  ends = (inl (refl, refl), inr refl);
  promises = record {
    printed = λ asked done. absurd cc;
    reduced = λ asked done. absurd cc;
    fused = λ asked done. absurd cc;
    narrowed = λ asked done. absurd cc;
    saved = λ options asked done. absurd cc;
    resumed = λ options asked read wrote lacks. absurd (lacks refl);
    certified = λ asked done. absurd cc;
  };
}

-- ---- what a caller finds

module _ (words input : List ℕ) (number : ℕ) (lengths : Lengths) (output_room errors_room : List ℕ) where
  pub answer_laid : (status : Status) (output errors : List ℕ) → number ≡ exit_status_of status → EndsOverBytes (ended_words words) input (length output_room) (length errors_room) output errors status
      → IsLaid output lengths.output output_room → IsLaid errors lengths.errors errors_room → AnswersBytes words input number lengths output_room errors_room
  answer_laid status output errors is ends output_laid errors_laid = inl (status, is, record { output = output; errors = errors; ends = ends; output_laid = output_laid; errors_laid = errors_laid })

  nothing_laid : lengths.output ≡ 0 → IsLaid [] lengths.output output_room
  nothing_laid none = (none, λ fits. ap (λ n. take n output_room) none)

  pub failure_laid : (why : Failure) → (why ≡ failures.NoMemory) ⊎ ((why ≡ failures.Usage) × (All IsUtf8 (ended_words words) → ⊥)) → number ≡ exit_status_of (status_of_failure why)
      → lengths.output ≡ 0 → IsLaid (failure_line why) lengths.errors errors_room → AnswersBytes words input number lengths output_room errors_room
  failure_laid failures.NoMemory h is none laid = answer_laid statuses.NoMemory [] (failure_line failures.NoMemory) is (without_memory (ended_words words) input (length output_room) (length errors_room)) (nothing_laid none) laid
  failure_laid failures.Usage (inl other) is none laid = absurd cc
  failure_laid failures.Usage (inr h) is none laid = inr (h.1, is, nothing_laid none, laid)
  failure_laid failures.ReadFault (inl other) is none laid = absurd cc
  failure_laid failures.ReadFault (inr h) is none laid = let e = h.0 in absurd cc
  failure_laid failures.WriteFault (inl other) is none laid = absurd cc
  failure_laid failures.WriteFault (inr h) is none laid = let e = h.0 in absurd cc
