-- The clauses between the steps of `replicate`: the rest of a report, and how far it was written.
use Rattle.std.specs.Prelude.{◌≡◌, ℕ, zero, suc, ◌+◌, List, ◌++◌, Ok}
use Rattle.sig_base.specs.Sink.{Outlet}
use Rattle.command_words.specs.declared.replicate_options.ReplicateOptions.{ReplicateOptions}
use Rattle.model_core.specs.EventGraph.{EventGraph}
use Rattle.tally_report.specs.ReportText.{total_rows}
use Rattle.tally_report.specs.Totalling.{RunTotals, with_run}
use Rattle.job_answers.specs.ReplicateAnswer.{tally_numbered, rows_numbered}
use Rattle.job_answers.specs.Inner.WritingSteps.{WritesPieces}

-- the rest of a report after the runs of these totals: so many runs from this number on, and the totals
abbrev pub rest_of_report : EventGraph → ReplicateOptions → RunTotals → ℕ → ℕ → List ℕ
rest_of_report g o totals number zero = total_rows g totals
rest_of_report g o totals number (suc n) = rows_numbered g o number ++ rest_of_report g o (with_run totals (tally_numbered g o number)) (number + 1) n

-- all of the bytes were written but these, which are left
pub record IsWrittenUpTo (left bytes : List ℕ) (o p : Outlet) : Type 0 where
  pub front : List ℕ
  pub parts : front ++ left ≡ bytes
  pub written : WritesPieces front (Ok tt) o p
