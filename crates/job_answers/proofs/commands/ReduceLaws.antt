-- The laws of the answer of `reduce`: the strategy ends, and makes one thing of a model.
use Rattle.std.proofs.Common.{◌≡◌, inr, ℕ, ◌<◌, List, ◌++◌, length, refl, sym, ap, ap₂, ◌∙◌, subst}
use Rattle.command_words.specs.declared.reading.ModelJob.TheVariants.{Reduce}
use Rattle.command_words.specs.declared.reading.Reading.TheVariants.{Model}
use Rattle.model_core.specs.Rules.Certificate.{certificate}
use Rattle.answer_delivery.specs.declared.status.End.TheVariants as ends
use Rattle.job_answers.specs.AnswerLaws.{KeepsAnswerLaws}
use Rattle.job_answers.specs.ReduceAnswer.{Reduces}
use Rattle.job_answers.proofs.ModelTerms.{EventGraph, canonical, IsValid, RuleApplication, Strategy}
use Rattle.job_answers.proofs.AnswerTerms.{Answer, done, IsDone, status_of_answer}
use Rattle.job_answers.proofs.GivenAnswers.{some_bytes, end_unrefused}
use Rattle.job_answers.proofs.commands.PrintLaws.{canonical_has_bytes}

-- the strategy makes one list of applications of a model, and reaches one model
pub record OneStrategy : Type 0 where
  pub applications : (g h k : EventGraph) (a b : List RuleApplication) → Strategy g a h → Strategy g b k → a ≡ b
  pub reduced : (g h k : EventGraph) (a b : List RuleApplication) → Strategy g a h → Strategy g b k → h ≡ k

-- the strategy of a valid model ends
abbrev pub StrategyEnds : Type 0
StrategyEnds = (g : EventGraph) → IsValid g → (applications : List RuleApplication) × (h : EventGraph) × Strategy g applications h

exists : StrategyEnds → (g : EventGraph) → IsValid g → (a : Answer) × IsDone (Reduces g) a
exists ends g valid =
    let (applications, reduced, strategy) = ends g valid in
    let out = canonical reduced ++ certificate applications in
    (done out, (out, record { applications = applications; reduced = reduced; strategy = strategy; written = refl }, refl))

-- the result of the strategy is written in one way
one_text : OneStrategy → (g : EventGraph) (a b : List ℕ) → Reduces g a → Reduces g b → a ≡ b
one_text only g a b p q =
    p.written ∙ ap₂ (λ r as_. canonical r ++ certificate as_) (only.reduced g p.reduced q.reduced p.applications q.applications p.strategy q.strategy) (only.applications g p.reduced q.reduced p.applications q.applications p.strategy q.strategy) ∙ sym q.written

has_bytes : (g : EventGraph) (out : List ℕ) → Reduces g out → 0 < length out
has_bytes g out r = subst (λ (bytes : List ℕ). 0 < length bytes) (sym r.written) (canonical_has_bytes r.reduced (certificate r.applications))

pub reduce_laws : OneStrategy → StrategyEnds → KeepsAnswerLaws (Model Reduce)
reduce_laws only strategy_ends = record {
  exists = exists strategy_ends;
  one = λ g a b x y. x.2 ∙ ap (λ out. done out) (one_text only g x.0 y.0 x.1 y.1) ∙ sym y.2;
  has_bytes = λ g end bytes h. inr (some_bytes (has_bytes g h.0 h.1) h.2);
  unrefused = λ g a h e. end_unrefused ends.Done (sym (ap status_of_answer h.2) ∙ e);
}
