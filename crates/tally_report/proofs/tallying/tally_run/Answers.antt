use Rattle.std.proofs.Common.{◌≡◌, ℕ, ℤ, List, Result, None, ap, ap₂, ◌∙◌, subst}
use Rattle.std.specs.Prelude.{IfOk}
use Rattle.model_core.specs.declared.model.Model.{Model}
use Rattle.model_core.specs.Run.Step.{Configuration}
use Rattle.model_core.specs.Run.History.{Moment, look, look_from}
use Rattle.model_core.specs.Code.Views.{graph_of}
use Rattle.run_control.specs.Beginning.{BegunRun}
use Rattle.run_control.specs.Running.{Running}
use Rattle.tally_report.specs.declared.run_tally.RunTally.{RunTally}
use Rattle.tally_report.specs.Tallying.{tally_of}
use Rattle.tally_report.proofs.tallying.tally_run.Goals as goal

-- the tally of a run from where it has begun is that of the whole run
from_beginning : {E : Type 0} (result : Result RunTally E) (m n : Model) (r : Running) (seed until events room : ℕ) (starts : List ℤ) → m ≡ n → BegunRun n seed starts room r
    → IfOk result (λ tally. tally ≡ tally_of (graph_of m) until (look_from (graph_of m) r.seed until events (record { now = r.now; noted = None })))
    → IfOk result (λ tally. tally ≡ tally_of (graph_of n) until (look (graph_of n) seed starts until events))
from_beginning result m n r seed until events room starts same begun is =
    let moment : Configuration → Moment = λ d. record { now = d; noted = None } in
    subst (λ (t : RunTally). IfOk result (λ tally. tally ≡ t))
    (ap (λ (x : Model). tally_of (graph_of x) until (look_from (graph_of x) r.seed until events (moment r.now))) same
    ∙ ap₂ (λ (s : ℕ) (d : Configuration). tally_of (graph_of n) until (look_from (graph_of n) s until events (moment d))) begun.seeded begun.now)
    is

pub returns-clause-tally : goal.returns-clause-tally
returns-clause-tally c = from_beginning c.follow.result c.model-model.result.now c.args.starts.now.model _ c.args.seed c.args.until c.args.events _ c.args.starts.now.values c.model-model.ensures.model c.in_ok-run.ensures c.follow.ensures.tally
