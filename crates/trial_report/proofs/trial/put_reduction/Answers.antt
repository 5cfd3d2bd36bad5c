use Rattle.std.proofs.Common.{List, ℕ, ◌++◌, codes, length, ap, ◌∙◌}
use Rattle.model_core.specs.Code.Views.{graph_of}
use Rattle.trial_report.specs.TrialText.{size_line, applications_line, run_line}
use Rattle.trial_report.proofs.Appending.{one_more, at_last}
use Rattle.trial_report.proofs.SummaryLines.{measured_line}
use Rattle.trial_report.proofs.trial.put_reduction.Goals as goal

pub returns : goal.returns
returns c = λ g measured.
    let a = c.args in
    let old = a.out.now.items in
    let reduced = graph_of a.reduced.now.model in
    let sized : List ℕ = size_line (codes "reduced") reduced in
    let applied : List ℕ = applications_line (length a.reduced.now.applications) in
    let original : List ℕ = run_line (codes "original") g a.seed a.until a.events in
    at_last c.put_run_of.result old c.put_run.new.out.items _ (sized ++ applied ++ original) (run_line (codes "reduced") reduced a.seed a.until a.events)
    (one_more old c.put_applications.new.out.items _ (sized ++ applied) original
    (one_more old c.put_size.new.out.items _ sized applied c.in_ok-put_size.ensures
    (c.in_ok-put_applications.ensures ∙ ap (λ n. c.put_size.new.out.items ++ applications_line n) c.len.ensures))
    (c.in_ok-put_run.ensures ∙ ap (λ (line : List ℕ). c.put_applications.new.out.items ++ line) (measured_line (codes "original") g a.seed a.until a.events a.run measured)))
    c.put_run_of.ensures
