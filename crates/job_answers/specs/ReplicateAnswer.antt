-- What `replicate` answers for a model: the report of its runs, or why the starting values aren't taken.
use Rattle.std.specs.Prelude.{ℕ, ◌+◌, ◌-◌, ◌*◌, ◌%◌, ◌^◌, List, ◌++◌, map}
use Rattle.std.specs.List.{flat_map, range_with_len}
use Rattle.command_words.specs.declared.replicate_options.ReplicateOptions.{ReplicateOptions}
use Rattle.model_core.specs.EventGraph.{EventGraph}
use Rattle.model_core.specs.Run.History.{look}
use Rattle.tally_report.specs.declared.run_tally.RunTally.{RunTally}
use Rattle.tally_report.specs.Tallying.{tally_of}
use Rattle.tally_report.specs.Totalling.{totals_of}
use Rattle.tally_report.specs.ReportText.{header_row, run_rows, total_rows}
use Rattle.answer_delivery.specs.declared.answer.Answer.{Answer}
use Rattle.answer_delivery.specs.AnswerForms.{done}
use Rattle.job_answers.specs.RunAnswer.{refused_or}
use Rattle.job_answers.specs.StartingValues.{start_refusal}

-- the seed of the run of a number, from 1: seeds of 64 bits, of which each is a stride after the one before. They begin again at 0
-- after the last one
abbrev pub seed_of_run : ℕ → ℕ → ℕ → ℕ
seed_of_run seed stride number = (seed + (number - 1) * stride) % 2 ^ 64

-- the tally of the run of a number
abbrev pub tally_numbered : EventGraph → ReplicateOptions → ℕ → RunTally
tally_numbered g o number = tally_of g o.until (look g (seed_of_run o.seed o.stride number) o.starts o.until o.events)

-- its rows
abbrev pub rows_numbered : EventGraph → ReplicateOptions → ℕ → List ℕ
rows_numbered g o number = run_rows g number (seed_of_run o.seed o.stride number) (tally_numbered g o number)

-- the rows of each run, and those of the totals of all of them
abbrev pub report_rows : EventGraph → ReplicateOptions → List ℕ
report_rows g o =
    let numbers = range_with_len 1 o.runs in
    flat_map (rows_numbered g o) numbers ++ total_rows g (totals_of g (map (tally_numbered g o) numbers))

-- the report: the header, and all rows
abbrev pub report : EventGraph → ReplicateOptions → List ℕ
report g o = header_row ++ report_rows g o

-- what `replicate` answers for a model
abbrev pub replicate_answer : EventGraph → ReplicateOptions → Answer
replicate_answer g o = refused_or (start_refusal g o.starts) (done (report g o))
