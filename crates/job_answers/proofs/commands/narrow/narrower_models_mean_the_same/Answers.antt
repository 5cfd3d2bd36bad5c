use Rattle.command_words.specs.declared.reading.ModelJob.TheVariants.{Narrow}
use Rattle.model_core.specs.Ranges.Narrowed.{IsNarrowed}
use Rattle.job_answers.proofs.commands.RewrittenMeans.{KeepsMeaningAs, rewritten_means}
use Rattle.job_answers.proofs.commands.narrow.narrower_models_mean_the_same.Goals as goal

pub returns : goal.returns
returns c =
    let law : KeepsMeaningAs IsNarrowed = record { reads_back = c.validity_is_by_parts.ensures.reads_back; valid = c.narrowed_models_mean_the_same.ensures.valid; same = c.narrowed_models_mean_the_same.ensures.same } in
    λ text out end answers. rewritten_means IsNarrowed law Narrow (λ g a is. is) text out end answers
