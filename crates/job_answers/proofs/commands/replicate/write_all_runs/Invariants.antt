use Rattle.std.proofs.Common.{◌≡◌, ◌+◌, ◌-◌}
use Rattle.model_core.specs.Code.Views.{graph_of}
use Rattle.job_answers.specs.Inner.ReportSteps.{rest_of_report, IsWrittenUpTo}
use Rattle.job_answers.proofs.commands.replicate.write_all_runs.Given as goal

-- what is left are the runs from here on, and the totals of those before
abbrev pub invariant-loop-number : goal.invariant-loop-number
invariant-loop-number g l =
    IsWrittenUpTo (rest_of_report (graph_of l.model) l.options l.totals l.number (l.options.runs + 1 - l.number)) (rest_of_report (graph_of l.model) l.options l.initial.totals 1 l.options.runs) (g.K.Sink.seen l.initial.output) (g.K.Sink.seen l.output)
    × (l.totals.runs + 1 ≡ l.number)
