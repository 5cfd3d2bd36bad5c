use Rattle.std.proofs.Common.{◌≡◌, ◌+◌, ◌-◌}
use Rattle.model_core.specs.Code.Views.{graph_of}
use Rattle.job_answers.specs.CompareAnswer.{answer_of_runs}
use Rattle.job_answers.proofs.commands.compare.compare_runs.Given as goal

abbrev pub invariant-loop-number : goal.invariant-loop-number
invariant-loop-number l =
    answer_of_runs (graph_of l.first.model) (graph_of l.second.model) l.options l.number (l.options.runs + 1 - l.number)
    ≡ answer_of_runs (graph_of l.first.model) (graph_of l.second.model) l.options 1 l.options.runs
