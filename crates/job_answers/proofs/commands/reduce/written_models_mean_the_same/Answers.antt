-- A text that isn't refused reads as a model, whose reduction is what is written.
use Rattle.std.proofs.Common.{inl, inr, ℕ, List, sym, subst}
use Rattle.command_words.specs.declared.reading.ModelJob.TheVariants.{Reduce}
use Rattle.command_words.specs.declared.reading.Reading.TheVariants.{Model}
use Rattle.job_answers.specs.Answers.{Responds, Answers}
use Rattle.job_answers.specs.ReduceAnswer.{Reduces, KeepsMeaning}
use Rattle.job_answers.proofs.ModelTerms.{EventGraph, Reads, IsValid}
use Rattle.job_answers.proofs.AnswerTerms.{Given, End}
use Rattle.job_answers.proofs.GivenAnswers.{given_is_no_refusal, given_bytes}
use Rattle.job_answers.proofs.commands.reduce.written_models_mean_the_same.Goals as goal

pub returns : goal.returns
returns c = λ text out end answers. of_answer text out end answers
  where
    reduced : (text out : List ℕ) (original : EventGraph) → Reads text original → Reduces original out → KeepsMeaning text out
    reduced text out original reads reduces =
        let valid : IsValid original = (text, reads) in
        record {
          original = original;
          reads = reads;
          reduces = reduces;
          reads_back = c.validity_is_by_parts.ensures.reads_back reduces.reduced (c.strategies_keep_the_meaning.ensures.valid original reduces.applications reduces.reduced valid reduces.strategy);
          same = c.strategies_keep_the_meaning.ensures.same original reduces.applications reduces.reduced valid reduces.strategy;
        }

    of_model : (text out : List ℕ) (end : End) → Responds (Model Reduce) text (Given end out) → KeepsMeaning text out
    of_model text out end (inl h) = absurd (given_is_no_refusal h.refuses)
    of_model text out end (inr h) = subst (λ (b : List ℕ). KeepsMeaning text b) (sym (given_bytes h.2.2)) (reduced text h.2.0 h.0 h.1 h.2.1)

    of_answer : (text out : List ℕ) (end : End) → Answers (Model Reduce) text (Given end out) → KeepsMeaning text out
    of_answer text out end (inl over) = absurd (given_is_no_refusal over.1)
    of_answer text out end (inr h) = of_model text out end h.1
