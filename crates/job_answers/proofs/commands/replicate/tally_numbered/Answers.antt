use Rattle.std.proofs.Common.{◌≡◌, ℕ, ℤ, List, IfOk, subst}
use Rattle.model_core.specs.Run.History.{look}
use Rattle.model_core.specs.Code.Views.{graph_of}
use Rattle.tally_report.specs.Tallying.{tally_of}
use Rattle.job_answers.specs.ReplicateAnswer.{seed_of_run}
use Rattle.job_answers.proofs.commands.replicate.tally_numbered.Goals as goal

-- a valid model can be run
pub tally_run-requires-clause-possible : goal.tally_run-requires-clause-possible
tally_run-requires-clause-possible c =
    let kept = (c.validity_is_by_parts.ensures.by_parts (graph_of c.args.starts.now.model)).0 c.requires.valid in
    c.kept_models_can_be_run.ensures (graph_of c.args.starts.now.model) kept.0 kept.1

-- the seed is that of the run, and the starting values are those of the options
pub returns-clause-of_run : goal.returns-clause-of_run
returns-clause-of_run c =
    let g = graph_of c.args.starts.now.model in
    let o = c.args.options.now in
    subst (λ (values : List ℤ). IfOk c.tally_run.result (λ tally. tally ≡ tally_of g o.until (look g (seed_of_run o.seed o.stride c.args.number) values o.until o.events))) c.requires.given
    (subst (λ (seed : ℕ). IfOk c.tally_run.result (λ tally. tally ≡ tally_of g o.until (look g seed c.args.starts.now.values o.until o.events))) c.seed_of_run.ensures c.tally_run.ensures.tally)
