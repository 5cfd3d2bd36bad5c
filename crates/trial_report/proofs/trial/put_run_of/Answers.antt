use Rattle.std.proofs.Common.{List, ℕ, ◌≡◌, ◌++◌, subst}
use Rattle.std.specs.Prelude.{OnOk}
use Rattle.model_core.specs.Code.Views.{graph_of}
use Rattle.trial_report.proofs.SummaryLines.{measured_line}
use Rattle.trial_report.proofs.trial.put_run_of.Goals as goal

pub returns : goal.returns
returns c =
    subst (λ (line : List ℕ). OnOk c.put_run.result (c.put_run.new.out.items ≡ c.args.out.now.items ++ line))
    (measured_line c.args.name.now (graph_of c.args.model.now) c.args.seed c.args.until c.args.events c.in_ok-run.run' c.in_ok-run.ensures) c.put_run.ensures
