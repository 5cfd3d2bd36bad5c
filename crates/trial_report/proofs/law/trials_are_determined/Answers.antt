use Rattle.std.proofs.Common.{length, refl}
use Rattle.model_gen.specs.Generated.{generated}
use Rattle.trial_report.specs.TrialText.{summary}
use Rattle.trial_report.proofs.law.trials_are_determined.Goals as goal

pub returns-clause-exists : goal.returns-clause-exists
returns-clause-exists c = λ seed vertices until events some few.
    let (applications, reduced, strategy) = c.strategies_end.ensures (generated seed vertices) (c.generated_models_are_valid.ensures seed vertices some few) in
    (summary (generated seed vertices) reduced (length applications) seed until events, record { applications = applications; reduced = reduced; strategy = strategy; written = refl })
