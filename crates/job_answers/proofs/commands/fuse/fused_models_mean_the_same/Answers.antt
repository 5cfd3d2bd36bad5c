use Rattle.command_words.specs.declared.reading.ModelJob.TheVariants.{Fuse}
use Rattle.model_core.specs.Rules.Fuse.{Fused}
use Rattle.job_answers.proofs.commands.RewrittenMeans.{KeepsMeaningAs, rewritten_means}
use Rattle.job_answers.proofs.commands.fuse.fused_models_mean_the_same.Goals as goal

pub returns : goal.returns
returns c =
    let law : KeepsMeaningAs Fused = record { reads_back = c.validity_is_by_parts.ensures.reads_back; valid = c.fusing_ends.ensures.valid; same = c.fusing_ends.ensures.same } in
    λ text out end answers. rewritten_means Fused law Fuse (λ g a is. is) text out end answers
