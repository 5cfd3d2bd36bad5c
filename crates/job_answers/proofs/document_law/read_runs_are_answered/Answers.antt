-- A document that reads as a saved run isn't refused, and reads as no other one.
use Rattle.std.proofs.Common.{◌≡◌, inl, inr, ℕ, List, subst, arith}
use Rattle.command_words.specs.declared.reading.Reading.TheVariants.{Saved}
use Rattle.command_words.specs.declared.reading.SavedJob.{SavedJob}
use Rattle.answer_delivery.specs.declared.answer.Answer.{Answer}
use Rattle.job_answers.specs.AnswerLaws.{SavedParts}
use Rattle.job_answers.specs.Answers.{AnswersSaved, Responds, Answers}
use Rattle.job_answers.specs.SavedReading.{ReadsSaved}
use Rattle.job_answers.proofs.ModelTerms.{EventGraph, SavedRun}
use Rattle.job_answers.proofs.document_law.read_runs_are_answered.Goals as goal

pub returns : goal.returns
returns c = λ job text g s a reads answers. of_answer job text g s a reads answers
  where
    of_document : (job : SavedJob) (text : List ℕ) (g : EventGraph) (s : SavedRun) (a : Answer) → ReadsSaved text g s → Responds (Saved job) text a → AnswersSaved job g s a
    of_document job text g s a reads (inl h) = absurd (c.saved_documents_have_one_complaint.ensures.none text h.what h.at g s h.complaint reads)
    of_document job text g s a reads (inr (h, t, reads_too, answers)) =
        let same = c.saved_documents_have_one_complaint.ensures.one_reading text h g t s reads_too reads in
        let parts : ◌≡◌ {A = SavedParts} (h, t) (g, s) = λ i. (same.0 i, same.1 i) in
        subst (λ (d : SavedParts). AnswersSaved job d.0 d.1 a) parts answers

    of_answer : (job : SavedJob) (text : List ℕ) (g : EventGraph) (s : SavedRun) (a : Answer) → ReadsSaved text g s → Answers (Saved job) text a → AnswersSaved job g s a
    of_answer job text g s a reads (inl h) = let over = h.0 in let fits = reads.fits in absurd (omega (arith, over, fits))
    of_answer job text g s a reads (inr h) = of_document job text g s a reads h.1
