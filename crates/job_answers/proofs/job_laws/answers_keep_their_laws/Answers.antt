use Rattle.model_core.specs.Rules.Fuse.{Fused}
use Rattle.model_core.specs.Ranges.Narrowed.{IsNarrowed}
use Rattle.normal_form.specs.Normal.{Normal}
use Rattle.job_answers.proofs.JobLaws.{keeps_laws}
use Rattle.job_answers.proofs.commands.ReduceLaws.{OneStrategy}
use Rattle.job_answers.proofs.commands.RewritingLaws.{BecomesOne}
use Rattle.job_answers.proofs.commands.SaveLaws.{GoingIsLed}
use Rattle.job_answers.proofs.commands.TrialLaws.{OneSummary}
use Rattle.job_answers.proofs.job_laws.answers_keep_their_laws.Goals as goal

pub returns : goal.returns
returns c = λ reading.
    let only : OneStrategy = record { applications = c.strategies_are_determined.ensures.applications; reduced = c.strategies_are_determined.ensures.reduced } in
    let fuses : BecomesOne Fused = record { ends = λ g valid. c.fusing_ends.ensures.ends g; determined = c.fusing_ends.ensures.determined } in
    let narrows : BecomesOne IsNarrowed = record { ends = c.narrowed_models_mean_the_same.ensures.exists; determined = c.narrowed_models_mean_the_same.ensures.determined } in
    let forms : BecomesOne Normal = record { ends = c.normal_forms_keep_the_meaning.ensures.exists; determined = c.normal_forms_keep_the_meaning.ensures.determined } in
    let trials : OneSummary = record { exists = c.trials_are_determined.ensures.exists; one = c.trials_are_determined.ensures.one; has_bytes = c.trials_are_determined.ensures.has_bytes } in
    let led : GoingIsLed = λ g seed until n m going. let (r, leads, history) = c.runs_go_on.ensures.going g seed until n m going in (r, leads) in
    keeps_laws only c.strategies_end.ensures fuses narrows forms trials led reading
