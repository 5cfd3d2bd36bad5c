use Rattle.std.proofs.Common.{◌≡◌, ◌⊎◌, inl, inr, ℕ, ◌+◌, ◌<◌, ◌≤◌, true, false, List, [], ◌∷◌, length, drop, sym, ap, subst, arith}
use Rattle.std.specs.Prelude.{Option, Some, codes}
use Rattle.std.proofs.lemmas.List.{length-drop}
use Rattle.std.proofs.lemmas.Option.{same_Some}
use Rattle.sig_base.specs.declared.limits.TheConstants.{TEXT_MAX}
use Rattle.sig_base.specs.Faults.{HasRisen}
use Rattle.sig_base.specs.Sink.{Outlet}
use Rattle.command_words.specs.declared.job.Job.{Job}
use Rattle.command_words.specs.declared.job.Job.TheVariants as jobs
use Rattle.command_words.specs.Readings.{reading_of}
use Rattle.answer_delivery.specs.declared.status.End.TheVariants as ends
use Rattle.answer_delivery.specs.declared.status.Refusal.TheVariants as refusals
use Rattle.sigma_top.specs.StatusTable.{WritesAnswer, Refuses, FailsToRead, FailsToWrite, LacksMemory, ForJob}
use Rattle.sigma_tests.specs.Devices.{input_of, output_of}
use Rattle.answer_laws.proofs.SteadyDevices.{no_rise}
use Rattle.sigma_tests.proofs.SeenDevices.{inlet, outlet, never_true, some_bytes}
use Rattle.sigma_tests.proofs.endings.calls_never_end_so.Goals as goal

settled : true ≡ false → ⊥
settled e = cc

-- more bytes are taken by the second
apart : (m n : ℕ) (text : List ℕ) → m < n → n ≤ length text → ◌≡◌ {A = Option (List ℕ)} (Some (drop n text)) (Some (drop m text)) → ⊥
apart m n text less long same = omega (arith, length-drop m text, length-drop n text, ap length (same_Some _ _ same))

no_bytes : (byte : ℕ) (rest : List ℕ) → ◌≡◌ {A = Option (List ℕ)} (Some []) (Some (byte ∷ rest)) → ⊥
no_bytes byte rest e = cc

pub returns-clause-done_but_unfinished : goal.returns-clause-done_but_unfinished
returns-clause-done_but_unfinished c = λ words i j o e f bytes faults h. never_true h.0.2.output_settled

pub returns-clause-done_but_unread : goal.returns-clause-done_but_unread
returns-clause-done_but_unread c = λ text rest byte o p e f h.
    some_bytes byte rest (subst (λ (job : Job). WritesAnswer inlet outlet (reading_of job) ends.Done (input_of text 0) (input_of (byte ∷ rest) 0) o p) (sym (same_Some jobs.Print _ h.0.1)) h.0.2).input_read

pub returns-clause-done_but_told : goal.returns-clause-done_but_told
returns-clause-done_but_told c = λ words i j o p byte rest h. some_bytes byte rest (ap (λ (e : Outlet). e.written) h.1)

pub returns-clause-refused_but_read_too_far : goal.returns-clause-refused_but_read_too_far
returns-clause-refused_but_read_too_far c = λ text o p e f long h.
    let k = subst (λ (job : Job). Refuses inlet outlet (reading_of job) refusals.Refused h.0 (input_of text 0) (input_of (drop (TEXT_MAX + 2) text) 0) o p) (sym (same_Some jobs.Check _ h.1.1)) h.1.2 in
    apart (TEXT_MAX + 1) (TEXT_MAX + 2) text (omega arith) long k.input_read

pub returns-clause-refused_but_written : goal.returns-clause-refused_but_written
returns-clause-refused_but_written c = λ words i j byte rest e f h. some_bytes byte rest (ap (λ (o : Outlet). o.written) h.1.2.output_untouched)

pub returns-clause-usage_but_read : goal.returns-clause-usage_but_read
returns-clause-usage_but_read c = λ words byte o p e f h. no_bytes byte [] (ap (λ i. i.left) h.1)

pub returns-clause-usage_but_untold : goal.returns-clause-usage_but_untold
returns-clause-usage_but_untold c = λ words i j o p h. untold h.3
  where
    untold : HasRisen 0 0 ⊎ ◌≡◌ {A = Option (List ℕ)} (Some []) (Some (codes "sigma: bad command line\n")) → ⊥
    untold (inl rise) = no_rise rise
    untold (inr same) = cc

pub returns-clause-read_fault_but_read_too_far : goal.returns-clause-read_fault_but_read_too_far
returns-clause-read_fault_but_read_too_far c = λ text o p e f long h.
    let k = (subst (λ (job : Job). FailsToRead inlet outlet (reading_of job) (input_of text 0) (input_of (drop (TEXT_MAX + 2) text) 1) o p) (sym (same_Some jobs.Check _ h.0.1)) h.0.2).input_read in
    apart k.0 (TEXT_MAX + 2) text (omega (arith, k.1)) long k.2

pub returns-clause-read_fault_but_none_failed : goal.returns-clause-read_fault_but_none_failed
returns-clause-read_fault_but_none_failed c = λ words text rest o p e f h. no_rise h.0.2.input_failed

pub returns-clause-write_fault_but_finished : goal.returns-clause-write_fault_but_finished
returns-clause-write_fault_but_finished c = λ i j o e f bytes faults h.
    finished (subst (λ (job : Job). FailsToWrite inlet outlet (reading_of job) i j o (output_of bytes faults true)) (sym (same_Some jobs.Print _ h.0.1)) h.0.2).output_unsettled
  where
    finished : ⊥ ⊎ (true ≡ false) → ⊥
    finished (inl nothing) = nothing
    finished (inr e) = settled e

pub returns-clause-no_memory_but_read_too_far : goal.returns-clause-no_memory_but_read_too_far
returns-clause-no_memory_but_read_too_far c = λ text o p e f long h. by text o p long h.0
  where
    by : (text : List ℕ) (o p : Outlet) → TEXT_MAX + 2 ≤ length text → ((input_of (drop (TEXT_MAX + 2) text) 0 ≡ input_of text 0) × (p ≡ o)) ⊎ ForJob (codes "check" ∷ []) (λ reading. LacksMemory inlet outlet reading (input_of text 0) (input_of (drop (TEXT_MAX + 2) text) 0) o p) → ⊥
    by text o p long (inl same) = apart 0 (TEXT_MAX + 2) text (omega arith) long (ap (λ i. i.left) same.0)
    by text o p long (inr h) =
        let k = (subst (λ (job : Job). LacksMemory inlet outlet (reading_of job) (input_of text 0) (input_of (drop (TEXT_MAX + 2) text) 0) o p) (sym (same_Some jobs.Check _ h.1)) h.2).input_read in
        apart k.0 (TEXT_MAX + 2) text (omega (arith, k.1)) long k.2
