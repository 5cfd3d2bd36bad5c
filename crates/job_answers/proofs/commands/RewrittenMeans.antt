-- The answer that is the text of what a model becomes means the same where what it becomes does.
use Rattle.std.proofs.Common.{inl, inr, ℕ, List, sym, subst}
use Rattle.command_words.specs.declared.reading.ModelJob.{ModelJob}
use Rattle.command_words.specs.declared.reading.Reading.TheVariants.{Model}
use Rattle.model_core.specs.Run.Same.{Same}
use Rattle.job_answers.specs.Answers.{AnswersModel, Responds, Answers}
use Rattle.job_answers.specs.RewrittenAnswer.{Rewrites, RewritesTheSame}
use Rattle.job_answers.proofs.ModelTerms.{EventGraph, canonical, Reads, IsValid}
use Rattle.job_answers.proofs.AnswerTerms.{Answer, Given, End, IsDone}
use Rattle.job_answers.proofs.GivenAnswers.{given_is_no_refusal, given_bytes}

-- what a valid model becomes is valid and means the same, and what is valid reads back
pub record KeepsMeaningAs (Becomes : EventGraph → EventGraph → Type 0) : Type 0 where
  pub reads_back : (h : EventGraph) → IsValid h → Reads (canonical h) h
  pub valid : (g h : EventGraph) → IsValid g → Becomes g h → IsValid h
  pub same : (g h : EventGraph) → IsValid g → Becomes g h → Same g h

module _ (Becomes : EventGraph → EventGraph → Type 0) (law : KeepsMeaningAs Becomes) where
  rewritten : (text out : List ℕ) (g : EventGraph) → Reads text g → Rewrites Becomes g out → RewritesTheSame Becomes text out
  rewritten text out g reads r =
      let valid : IsValid g = (text, reads) in
      record {
        original = g;
        reads = reads;
        rewrites = r;
        reads_back = subst (λ (bytes : List ℕ). Reads bytes r.rewritten) (sym r.written) (law.reads_back r.rewritten (law.valid g r.rewritten valid r.becomes));
        same = law.same g r.rewritten valid r.becomes;
      }

  module _ (job : ModelJob) (answers_so : (g : EventGraph) (a : Answer) → AnswersModel job g a → IsDone (Rewrites Becomes g) a) where
    of_model : (text out : List ℕ) (end : End) → Responds (Model job) text (Given end out) → RewritesTheSame Becomes text out
    of_model text out end (inl h) = absurd (given_is_no_refusal h.refuses)
    of_model text out end (inr h) =
        let is = answers_so h.0 (Given end out) h.2 in
        subst (λ (b : List ℕ). RewritesTheSame Becomes text b) (sym (given_bytes is.2)) (rewritten text is.0 h.0 h.1 is.1)

    pub rewritten_means : (text out : List ℕ) (end : End) → Answers (Model job) text (Given end out) → RewritesTheSame Becomes text out
    rewritten_means text out end (inl over) = absurd (given_is_no_refusal over.1)
    rewritten_means text out end (inr h) = of_model text out end h.1
