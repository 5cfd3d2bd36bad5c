-- Only the verdict of a sound certificate ends as done.
use Rattle.std.proofs.Common.{◌≡◌, inl, inr, List, ℕ, refl}
use Rattle.command_words.specs.declared.reading.DocumentJob.TheVariants.{Certify}
use Rattle.command_words.specs.declared.reading.Reading.TheVariants.{Document}
use Rattle.model_core.specs.Rules.Verdict.{Verdict, Sound, Rejected, Differs, verdict}
use Rattle.answer_delivery.specs.declared.answer.Answer.TheVariants.{Given}
use Rattle.answer_delivery.specs.declared.status.End.TheVariants as ends
use Rattle.job_answers.specs.Answers.{Responds, Answers}
use Rattle.job_answers.specs.CertifyAnswer.{answer_of_verdict, Certifies}
use Rattle.job_answers.proofs.GivenAnswers.{given_is_no_refusal}
use Rattle.job_answers.proofs.commands.certify.sound_documents_mean_the_same.Goals as goal

is_sound : (v : Verdict) (bytes : List ℕ) → Given ends.Done bytes ≡ answer_of_verdict v → v ≡ Sound
is_sound Sound bytes e = refl
is_sound (Rejected line) bytes e = absurd cc
is_sound Differs bytes e = absurd cc

pub returns : goal.returns
returns c = λ text bytes answers. of_answer text bytes answers
  where
    of_document : (text bytes : List ℕ) → Responds (Document Certify) text (Given ends.Done bytes) → Certifies text
    of_document text bytes (inl h) = absurd (given_is_no_refusal h.refuses)
    of_document text bytes (inr (g, applications, h, reads, answers)) =
        let sound = is_sound (verdict g applications h) bytes answers in
        let valid = c.documents_have_valid_models.ensures.original text g applications h reads in
        record {
          original = g;
          applications = applications;
          reduced = h;
          reads = reads;
          chain = (c.verdicts_tell_chains.ensures.sound g applications h).0 sound;
          same = c.verdicts_tell_chains.ensures.same g applications h valid sound;
        }

    of_answer : (text bytes : List ℕ) → Answers (Document Certify) text (Given ends.Done bytes) → Certifies text
    of_answer text bytes (inl over) = absurd (given_is_no_refusal over.1)
    of_answer text bytes (inr h) = of_document text bytes h.1
