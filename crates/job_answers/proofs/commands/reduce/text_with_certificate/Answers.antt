-- The certificate follows the text that was printed.
use Rattle.std.proofs.Common.{◌∙◌, ◌++◌, map, ap}
use Rattle.model_core.specs.Rules.Certificate.{certificate}
use Rattle.job_answers.proofs.ModelTerms.{graph_of, application_of, canonical}
use Rattle.job_answers.proofs.commands.reduce.text_with_certificate.Goals as goal

pub returns : goal.returns
returns c =
    c.in_ok-put_certificate.ensures
    ∙ ap (λ before. before ++ certificate (map application_of c.as_slice.result.now)) (c.as_mut_vec.ensures.shows ∙ c.in_ok-out.ensures)
    ∙ ap (λ xs. canonical (graph_of c.args.reduced.now.model) ++ certificate (map application_of xs)) c.as_slice.ensures
