use Rattle.std.proofs.Common.{◌≡◌, ◌⊎◌, inl, inr, ℕ, true, List, [], ◌∷◌, ◌++◌, sym, ap, subst, arith}
use Rattle.std.specs.Prelude.{Option, Some}
use Rattle.std.proofs.lemmas.Option.{same_Some}
use Rattle.sig_base.specs.Sink.{Outlet}
use Rattle.sig_base.specs.Source.{Inlet}
use Rattle.command_words.specs.declared.job.Job.{Job}
use Rattle.command_words.specs.declared.job.Job.TheVariants as jobs
use Rattle.command_words.specs.Readings.{reading_of}
use Rattle.sigma_top.specs.StatusTable.{FailsToRead, LacksMemory, ForJob}
use Rattle.sigma_tests.specs.Devices.{output_of}
use Rattle.answer_laws.proofs.SteadyDevices.{no_rise}
use Rattle.sigma_tests.proofs.SeenDevices.{inlet, outlet, never_true, some_bytes}
use Rattle.sigma_tests.proofs.endings.no_status_ends_otherwise.Goals as goal

one_is_none : ◌≡◌ {A = ℕ} 1 0 → ⊥
one_is_none e = omega (arith, e)

pub returns-clause-done_but_read_failed : goal.returns-clause-done_but_read_failed
returns-clause-done_but_read_failed c = λ words text rest o p e f h. one_is_none h.0.2.input_steady

pub returns-clause-done_but_write_failed : goal.returns-clause-done_but_write_failed
returns-clause-done_but_write_failed c = λ words i j bytes more e f h. one_is_none h.0.2.output_steady

pub returns-clause-done_but_taken_back : goal.returns-clause-done_but_taken_back
returns-clause-done_but_taken_back c = λ words i j byte rest e f h. taken_back byte rest h.0.2.bytes h.0.2.output_grown
  where
    taken_back : (byte : ℕ) (rest bytes : List ℕ) → ◌≡◌ {A = Option (List ℕ)} (Some []) (Some (byte ∷ rest ++ bytes)) → ⊥
    taken_back byte rest bytes e = cc

pub returns-clause-model_fault_but_unfinished : goal.returns-clause-model_fault_but_unfinished
returns-clause-model_fault_but_unfinished c = λ words i j o e f bytes h. never_true h.0.2.output_settled

pub returns-clause-model_fault_but_told : goal.returns-clause-model_fault_but_told
returns-clause-model_fault_but_told c = λ words i j o p byte rest h. some_bytes byte rest (ap (λ (e : Outlet). e.written) h.1)

pub returns-clause-budget_but_unfinished : goal.returns-clause-budget_but_unfinished
returns-clause-budget_but_unfinished c = λ words i j o e f bytes h. never_true h.0.2.output_settled

pub returns-clause-budget_but_told : goal.returns-clause-budget_but_told
returns-clause-budget_but_told c = λ words i j o p byte rest h. some_bytes byte rest (ap (λ (e : Outlet). e.written) h.1)

pub returns-clause-rejected_but_unfinished : goal.returns-clause-rejected_but_unfinished
returns-clause-rejected_but_unfinished c = λ words i j o e f bytes h. never_true h.0.2.output_settled

pub returns-clause-rejected_but_told : goal.returns-clause-rejected_but_told
returns-clause-rejected_but_told c = λ words i j o p byte rest h. some_bytes byte rest (ap (λ (e : Outlet). e.written) h.1)

pub returns-clause-refused_but_read_failed : goal.returns-clause-refused_but_read_failed
returns-clause-refused_but_read_failed c = λ words text rest o p e f h. one_is_none h.1.2.input_steady

pub returns-clause-bad_start_but_written : goal.returns-clause-bad_start_but_written
returns-clause-bad_start_but_written c = λ words i j byte rest e f h. some_bytes byte rest (ap (λ (o : Outlet). o.written) h.1.2.output_untouched)

pub returns-clause-finished_but_written : goal.returns-clause-finished_but_written
returns-clause-finished_but_written c = λ words i j byte rest e f h. some_bytes byte rest (ap (λ (o : Outlet). o.written) h.1.2.output_untouched)

pub returns-clause-too_large_but_written : goal.returns-clause-too_large_but_written
returns-clause-too_large_but_written c = λ words i j byte rest e f h. some_bytes byte rest (ap (λ (o : Outlet). o.written) h.1.2.output_untouched)

pub returns-clause-usage_but_written : goal.returns-clause-usage_but_written
returns-clause-usage_but_written c = λ words i j byte rest e f h. some_bytes byte rest (ap (λ (o : Outlet). o.written) h.2)

pub returns-clause-read_fault_but_written : goal.returns-clause-read_fault_but_written
returns-clause-read_fault_but_written c = λ words i j byte rest e f h. some_bytes byte rest (ap (λ (o : Outlet). o.written) h.0.2.output_untouched)

pub returns-clause-read_fault_of_a_trial : goal.returns-clause-read_fault_of_a_trial
returns-clause-read_fault_of_a_trial c = λ i j o p e f h.
    never_true (subst (λ (job : Job). FailsToRead inlet outlet (reading_of job) i j o p) (sym (same_Some (jobs.Trial 1 2 3 4) _ h.0.1)) h.0.2).reads_text

pub returns-clause-write_fault_but_none_failed : goal.returns-clause-write_fault_but_none_failed
returns-clause-write_fault_but_none_failed c = λ words i j bytes more e f h. no_rise h.0.2.output_failed

pub returns-clause-write_fault_but_read_failed : goal.returns-clause-write_fault_but_read_failed
returns-clause-write_fault_but_read_failed c = λ words text rest o p e f h. one_is_none h.0.2.input_steady

pub returns-clause-no_memory_but_write_failed : goal.returns-clause-no_memory_but_write_failed
returns-clause-no_memory_but_write_failed c = λ words i j bytes more e f h. by words i j bytes more h.0
  where
    by : (words : List (List ℕ)) (i j : Inlet) (bytes more : List ℕ)
        → ((j ≡ i) × (output_of more 1 true ≡ output_of bytes 0 true)) ⊎ ForJob words (λ reading. LacksMemory inlet outlet reading i j (output_of bytes 0 true) (output_of more 1 true)) → ⊥
    by words i j bytes more (inl same) = one_is_none (ap (λ (o : Outlet). o.faults) same.1)
    by words i j bytes more (inr h) = one_is_none h.2.output_steady
