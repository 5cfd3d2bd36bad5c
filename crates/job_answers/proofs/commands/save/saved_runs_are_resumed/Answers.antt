use Rattle.job_answers.proofs.commands.SavedGoOn.{SavedFacts, saved_goes_on}
use Rattle.job_answers.proofs.commands.save.saved_runs_are_resumed.Goals as goal

pub returns : goal.returns
returns c =
    let facts : SavedFacts = record {
      by_parts = c.validity_is_by_parts.ensures.by_parts;
      resumes = c.saved_runs_resume.ensures;
      reads_back = c.saved_documents_read_back.ensures;
    } in
    λ o text document end limits answers. saved_goes_on facts o text document end limits answers
