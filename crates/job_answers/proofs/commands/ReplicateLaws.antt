-- From the pieces that `replicate` wrote to its report, and the laws of its answer.
use Rattle.std.proofs.Common.{◌≡◌, inl, inr, ℕ, zero, suc, ◌+◌, ◌<◌, ◌≤◌, List, ◌++◌, append_assoc, length, map, Option, Some, None, Result, Ok, Err, refl, sym, ap, ap₂, ◌∙◌, subst, arith}
use Rattle.std.specs.Prelude.{IsTrue, ◌-◌}
use Rattle.std.specs.List.{flat_map, range_with_len}
use Rattle.std.proofs.lemmas.List.{length-append}
use Rattle.command_words.specs.declared.reading.ModelJob.TheVariants.{Replicate}
use Rattle.command_words.specs.declared.reading.Reading.TheVariants.{Model as OfModel}
use Rattle.command_words.specs.declared.replicate_options.ReplicateOptions.{ReplicateOptions}
use Rattle.sig_base.specs.Sink.{Outlet}
use Rattle.tally_report.specs.declared.run_tally.RunTally.{RunTally}
use Rattle.tally_report.specs.ReportText.{header_row, run_rows, total_rows}
use Rattle.tally_report.specs.Totalling.{RunTotals, no_totals, totals_from, with_run}
use Rattle.answer_delivery.specs.declared.status.End.TheVariants as ends
use Rattle.answer_delivery.specs.declared.status.Status.TheVariants as statuses
use Rattle.job_answers.specs.AnswerLaws.{KeepsAnswerLaws}
use Rattle.job_answers.specs.ReplicateAnswer.{seed_of_run, tally_numbered, rows_numbered, report_rows, report, replicate_answer}
use Rattle.job_answers.specs.RunAnswer.{refused_or}
use Rattle.job_answers.specs.StartingValues.{start_refusal}
use Rattle.job_answers.specs.Inner.ReportSteps.{rest_of_report, IsWrittenUpTo}
use Rattle.job_answers.specs.Inner.WritingSteps.{WritesPieces}
use Rattle.job_answers.proofs.ModelTerms.{EventGraph, allowed}
use Rattle.job_answers.proofs.AnswerTerms.{Given, End, Failure, DeliveryOutcome, done, status_of_answer, DeliversSome, Closed}
use Rattle.job_answers.proofs.GivenAnswers.{given_is_no_refusal, some_bytes}
use Rattle.job_answers.proofs.PiecesWritten.{no_piece_written, further, next_piece_fails, broken_answer}
use Rattle.job_answers.proofs.StartLaws.{taken_start}
use Rattle.job_answers.proofs.Streaming.{closed}

-- ---- the report

-- what is left are the rows of the runs that are left, and the totals
left_is : (g : EventGraph) (o : ReplicateOptions) (t : RunTotals) (number n : ℕ)
    → flat_map (rows_numbered g o) (range_with_len number n) ++ total_rows g (totals_from t (map (tally_numbered g o) (range_with_len number n))) ≡ rest_of_report g o t number n
left_is g o t number zero = refl
left_is g o t number (suc n) =
    append_assoc (rows_numbered g o number) (flat_map (rows_numbered g o) (range_with_len (number + 1) n))
    (total_rows g (totals_from (with_run t (tally_numbered g o number)) (map (tally_numbered g o) (range_with_len (number + 1) n)))) ∙ ap (λ bytes. rows_numbered g o number ++ bytes) (left_is g o (with_run t (tally_numbered g o number)) (number + 1) n)

-- the rows are left at first
all_rows_left : (g : EventGraph) (o : ReplicateOptions) → report_rows g o ≡ rest_of_report g o (no_totals g) 1 (o.runs + 1 - 1)
all_rows_left g o =
    let all : o.runs ≡ o.runs + 1 - 1 = omega arith in
    left_is g o (no_totals g) 1 o.runs ∙ ap (rest_of_report g o (no_totals g) 1) all

-- a header and rows are left
header_and_rows : (header rows left : List ℕ) (o : Outlet) → rows ≡ left → IsWrittenUpTo (header ++ left) (header ++ rows) o o
header_and_rows header rows left o same = subst (λ (l : List ℕ). IsWrittenUpTo (header ++ l) (header ++ rows) o o) same (no_piece_written (header ++ rows) o)

module _ (g : EventGraph) (options : ReplicateOptions) where
  -- what is left after the runs of these totals; the next run has this number
  abbrev pub Left : RunTotals → ℕ → List ℕ
  Left totals number = rest_of_report g options totals number (options.runs + 1 - number)

  -- the next run's rows, and what is left after it
  next_left : (t : RunTotals) (number : ℕ) → number < options.runs + 1 → Left t number ≡ rows_numbered g options number ++ Left (with_run t (tally_numbered g options number)) (number + 1)
  next_left t number below =
      let one_more : options.runs + 1 - number ≡ suc (options.runs + 1 - (number + 1)) = omega (arith, below) in
      ap (rest_of_report g options t number) one_more

  -- the report is begun with its header
  pub header_first : (o : Outlet) → IsWrittenUpTo (header_row ++ Left (no_totals g) 1) (report g options) o o
  header_first o = header_and_rows header_row (report_rows g options) (Left (no_totals g) 1) o (all_rows_left g options)

  -- after the last run the totals are left
  pub totals_last : (t : RunTotals) (number : ℕ) (bytes : List ℕ) (o m : Outlet) → options.runs + 1 ≤ number → IsWrittenUpTo (Left t number) bytes o m → IsWrittenUpTo (total_rows g t) bytes o m
  totals_last t number bytes o m past h =
      let none : options.runs + 1 - number ≡ 0 = omega (arith, past) in
      subst (λ (n : ℕ). IsWrittenUpTo (rest_of_report g options t number n) bytes o m) none h

  module _ (t later : RunTotals) (number seed : ℕ) (tally : RunTally) (bytes : List ℕ) (o m p : Outlet) (below : number < options.runs + 1)
      (seeded : seed ≡ seed_of_run options.seed options.stride number) (tallied : tally ≡ tally_numbered g options number) (h : IsWrittenUpTo (Left t number) bytes o m) where
    rows_are : run_rows g number seed tally ≡ rows_numbered g options number
    rows_are = ap₂ (λ (n : ℕ) (r : RunTally). run_rows g number n r) seeded tallied

    here : IsWrittenUpTo (rows_numbered g options number ++ Left (with_run t (tally_numbered g options number)) (number + 1)) bytes o m
    here = subst (λ (left : List ℕ). IsWrittenUpTo left bytes o m) (next_left t number below) h

    -- the rows of the next run are written
    pub run_written : later ≡ with_run t tally → WritesPieces (run_rows g number seed tally) (Ok tt) m p → IsWrittenUpTo (Left later (number + 1)) bytes o p
    run_written added k =
        subst (λ (x : RunTotals). IsWrittenUpTo (Left x (number + 1)) bytes o p) (sym (added ∙ ap (with_run t) tallied))
        (further (rows_numbered g options number) (Left (with_run t (tally_numbered g options number)) (number + 1)) bytes o m p here (subst (λ (b : List ℕ). WritesPieces b (Ok tt) m p) rows_are k))

    -- or they break off
    pub run_broken : (f : Failure) → WritesPieces (run_rows g number seed tally) (Err f) m p → WritesPieces bytes (Err f) o p
    run_broken f k =
        next_piece_fails (rows_numbered g options number) (Left (with_run t (tally_numbered g options number)) (number + 1)) bytes f o m p here (subst (λ (b : List ℕ). WritesPieces b (Err f) m p) rows_are k)

-- ---- the answer

given_report : (g : EventGraph) (o : ReplicateOptions) → IsTrue (allowed g o.starts) → done (report g o) ≡ replicate_answer g o
given_report g o taken = ap (λ s. refused_or s (done (report g o))) (sym (taken_start g o.starts taken))

module _ {K : Type 0} (seen : K → Outlet) (g : EventGraph) (options : ReplicateOptions) (taken : IsTrue (allowed g options.starts)) where
  abbrev pub DeliversReport : Result DeliveryOutcome Failure → K → K → Type 0
  DeliversReport r o p = DeliversSome seen (λ a. a ≡ replicate_answer g options) (Unit {0}) r o p

  -- the report broke off
  pub report_broken : (f : Failure) (o p : K) → WritesPieces (report g options) (Err f) (seen o) (seen p) → DeliversReport (Err f) o p
  report_broken f o p h = inl (record {
    answer = done (report g options);
    holds = given_report g options taken;
    delivers = broken_answer seen o p ends.Done (report g options) f h;
    short = λ e. inr tt;
  })

  -- it is written, and the output is closed
  pub report_closed : (r : Result DeliveryOutcome Failure) (o m p : K) → WritesPieces (report g options) (Ok tt) (seen o) (seen m) → Closed ends.Done r (seen m) (seen p) → DeliversReport r o p
  report_closed r o m p h k = inl (record {
    answer = done (report g options);
    holds = given_report g options taken;
    delivers = closed seen o m p ends.Done (report g options) h.0 h.1 h.2 r k;
    short = λ e. inr tt;
  })

-- ---- its laws

header_has_bytes : (bytes : List ℕ) → 0 < length (header_row ++ bytes)
header_has_bytes bytes = omega (arith, length-append header_row bytes)

report_has_bytes : (g : EventGraph) (o : ReplicateOptions) (refusal : Option (List ℕ)) (end : End) (bytes : List ℕ) → Given end bytes ≡ refused_or refusal (done (report g o)) → 0 < length bytes
report_has_bytes g o (Some line) end bytes h = absurd (given_is_no_refusal h)
report_has_bytes g o None end bytes h = some_bytes (header_has_bytes (report_rows g o)) h

report_unrefused : (g : EventGraph) (o : ReplicateOptions) (refusal : Option (List ℕ)) → status_of_answer (refused_or refusal (done (report g o))) ≡ statuses.Refused → ⊥
report_unrefused g o None e = cc
report_unrefused g o (Some line) e = cc

pub replicate_laws : (options : ReplicateOptions) → KeepsAnswerLaws (OfModel (Replicate options))
replicate_laws o = record {
  exists = λ g valid. (replicate_answer g o, refl);
  one = λ g a b x y. x ∙ sym y;
  has_bytes = λ g end bytes h. inr (report_has_bytes g o (start_refusal g o.starts) end bytes h);
  unrefused = λ g a h e. report_unrefused g o (start_refusal g o.starts) (sym (ap status_of_answer h) ∙ e);
}
