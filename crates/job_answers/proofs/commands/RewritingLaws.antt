-- The laws of an answer that is the text of a rewritten model: there is a rewritten model, and only one.
use Rattle.std.proofs.Common.{◌≡◌, inr, ℕ, ◌<◌, List, [], length, refl, sym, ap, ◌∙◌, subst}
use Rattle.std.proofs.lemmas.List.{append-nil}
use Rattle.model_core.specs.Rules.Fuse.{Fused}
use Rattle.model_core.specs.Ranges.Narrowed.{IsNarrowed}
use Rattle.command_words.specs.declared.reading.ModelJob.TheVariants.{Fuse, Narrow}
use Rattle.command_words.specs.declared.reading.Reading.TheVariants.{Model}
use Rattle.answer_delivery.specs.declared.status.End.TheVariants as ends
use Rattle.job_answers.specs.AnswerLaws.{HasOneAnswer, KeepsAnswerLaws}
use Rattle.job_answers.specs.RewrittenAnswer.{Rewrites}
use Rattle.job_answers.proofs.ModelTerms.{EventGraph, canonical, IsValid}
use Rattle.job_answers.proofs.AnswerTerms.{Answer, done, IsDone, status_of_answer}
use Rattle.job_answers.proofs.GivenAnswers.{some_bytes, end_unrefused}
use Rattle.job_answers.proofs.commands.PrintLaws.{canonical_has_bytes}

-- what a valid model becomes is there, and it is one
pub record BecomesOne (Becomes : EventGraph → EventGraph → Type 0) : Type 0 where
  pub ends : (g : EventGraph) → IsValid g → (h : EventGraph) × Becomes g h
  pub determined : (g h k : EventGraph) → Becomes g h → Becomes g k → h ≡ k

module _ (Becomes : EventGraph → EventGraph → Type 0) (law : BecomesOne Becomes) where
  exists : (g : EventGraph) → IsValid g → (a : Answer) × IsDone (Rewrites Becomes g) a
  exists g valid =
      let (h, becomes) = law.ends g valid in
      (done (canonical h), (canonical h, record { rewritten = h; becomes = becomes; written = refl }, refl))

  one_text : (g : EventGraph) (a b : List ℕ) → Rewrites Becomes g a → Rewrites Becomes g b → a ≡ b
  one_text g a b p q = p.written ∙ ap (λ h. canonical h) (law.determined g p.rewritten q.rewritten p.becomes q.becomes) ∙ sym q.written

  has_bytes : (g : EventGraph) (out : List ℕ) → Rewrites Becomes g out → 0 < length out
  has_bytes g out r = subst (λ (bytes : List ℕ). 0 < length bytes) (append-nil (canonical r.rewritten) ∙ sym r.written) (canonical_has_bytes r.rewritten [])

  pub rewriting_laws : (MayBeNone : List ℕ → Type 0) → HasOneAnswer IsValid (λ g. IsDone (Rewrites Becomes g)) MayBeNone
  rewriting_laws MayBeNone = record {
    exists = exists;
    one = λ g a b x y. x.2 ∙ ap (λ out. done out) (one_text g x.0 y.0 x.1 y.1) ∙ sym y.2;
    has_bytes = λ g end bytes h. inr (some_bytes (has_bytes g h.0 h.1) h.2);
    unrefused = λ g a h e. end_unrefused ends.Done (sym (ap status_of_answer h.2) ∙ e);
  }

pub fuse_laws : BecomesOne Fused → KeepsAnswerLaws (Model Fuse)
fuse_laws law = rewriting_laws Fused law (λ bytes. ⊥)

pub narrow_laws : BecomesOne IsNarrowed → KeepsAnswerLaws (Model Narrow)
narrow_laws law = rewriting_laws IsNarrowed law (λ bytes. ⊥)
