-- From an answer of `save` that is given to the run that was saved, and to what `resume` answers for it.
use Rattle.std.proofs.Common.{◌≡◌, inl, inr, ℕ, ◌+◌, ◌<◌, ◌≤◌, ◌^◌, ◌++◌, ℤ, Bool, true, false, cond, List, length, Option, Some, None, refl, sym, ap, ◌∙◌, subst, arith, nat_le, nat_lt}
use Rattle.std.specs.Prelude.{IsTrue, ◌↔◌}
use Rattle.std.proofs.lemmas.Bool.Decides.{nat_tests}
use Rattle.sig_base.specs.declared.limits.TheConstants.{DOCUMENT_MAX, STOP_MAX, EVENTS_MAX}
use Rattle.command_words.specs.declared.reading.ModelJob.TheVariants.{Save}
use Rattle.command_words.specs.declared.reading.Reading.TheVariants.{Model as OfModel}
use Rattle.command_words.specs.declared.save_options.SaveOptions.{SaveOptions}
use Rattle.command_words.specs.KeptLimits.{KeepsLimits}
use Rattle.model_core.specs.Text.Spellable.{IsSpellable}
use Rattle.model_core.specs.Text.SnapshotGrammar.{WrittenSnapshot}
use Rattle.model_core.specs.Text.SnapshotText.{snapshot_text}
use Rattle.model_core.specs.Text.SavedDocument.{SpellsSaved}
use Rattle.model_core.specs.Static.OwnRules.{KeepsStaticRules}
use Rattle.model_core.specs.Saved.GoodSnapshots.{bad_at, saved_run}
use Rattle.model_core.specs.Saved.Resuming.{Resumes}
use Rattle.model_core.specs.Saved.GoingOn.{GoesOn}
use Rattle.answer_delivery.specs.declared.status.Refusal.TheVariants as refusals
use Rattle.job_answers.specs.Answers.{Responds, Answers}
use Rattle.job_answers.specs.RunAnswer.{answer_of_look, refused_or}
use Rattle.job_answers.specs.ResumeAnswer.{below_clock_line, too_many_events, resume_refusal}
use Rattle.job_answers.specs.SaveAnswer.{snapshot_too_long, saved_document, document_reached, unless_too_long, unless_finished, saving_answer}
use Rattle.job_answers.specs.SavedAndResumed.{IsResumed, SavesTheRun}
use Rattle.job_answers.specs.SavedReading.{ReadsSaved}
use Rattle.job_answers.specs.StartingValues.{start_refusal}
use Rattle.job_answers.proofs.ModelTerms.{EventGraph, WrittenModel, canonical, Accepted, IsValid, Reads, RunStatus, Ended, Stopped, Faulted, Going, Moment, start, allowed, look, reached_from, SavedRun, IsGood, saved, history_from}
use Rattle.job_answers.proofs.AnswerTerms.{Given, Refused, End, done}
use Rattle.job_answers.proofs.GivenAnswers.{given_is_no_refusal, given_bytes}
use Rattle.job_answers.proofs.StartLaws.{unrefused_start}

-- what the layers below say of saved runs
pub record SavedFacts : Type 0 where
  pub by_parts : (g : EventGraph) → IsValid g ↔ KeepsStaticRules g × IsSpellable g
  pub resumes : (g : EventGraph) (seed : ℕ) (starts : List ℤ) (until n : ℕ) → KeepsStaticRules g → IsSpellable g → seed < 2 ^ 64 → IsTrue (allowed g starts) → until ≤ STOP_MAX → n ≤ EVENTS_MAX → (look g seed starts until n).standing ≡ Going
      → (m : Moment) × GoesOn g seed starts until n m × Resumes g seed starts until n m
  pub reads_back : (g : EventGraph) (s : SavedRun) → KeepsStaticRules g → IsSpellable g → IsGood g s
      → (m : WrittenModel) × (w : WrittenSnapshot) × SpellsSaved (canonical g ++ snapshot_text g s) m w × Accepted m g × (bad_at g w ≡ None) × (saved_run g w ≡ s)

-- ---- what `resume` answers for it

not_refused : (s : SavedRun) (until more : ℕ) → s.clock ≤ until → s.events + more ≤ EVENTS_MAX → resume_refusal s until more ≡ None
not_refused s until more soon in_budget =
    let early : nat_lt until s.clock ≡ false = grind (arith, nat_tests, soon) in
    let enough : nat_lt EVENTS_MAX (s.events + more) ≡ false = grind (arith, nat_tests, in_budget) in
    ap (λ b. cond b (Some (below_clock_line s.clock)) (cond (nat_lt EVENTS_MAX (s.events + more)) (Some too_many_events) None)) early ∙ ap (λ b. cond b (Some too_many_events) None) enough

is_resumed : (g : EventGraph) (s : SavedRun) → IsResumed g s
is_resumed g s until more room soon in_budget a is = is ∙ ap (λ x. refused_or x (answer_of_look g until more (history_from g s until more))) (not_refused s until more soon in_budget)

-- ---- from the answer to the run

module _ (facts : SavedFacts) (o : SaveOptions) (limits : KeepsLimits (OfModel (Save o))) (text : List ℕ) (g : EventGraph) (reads : Reads text g) where
  record KeptRun (document : List ℕ) : Type 0 where
    going : (look g o.seed o.starts o.until o.events).standing ≡ Going
    fits : length document ≤ DOCUMENT_MAX
    is : document ≡ document_reached g o.seed o.events (reached_from g o.seed o.until o.events (start g o.starts))

  by_length : (end : End) (document whole : List ℕ) (b : Bool) → nat_le (length whole) DOCUMENT_MAX ≡ b → Given end document ≡ cond b (done whole) (Refused refusals.TooLarge snapshot_too_long) → (length document ≤ DOCUMENT_MAX) × (document ≡ whole)
  by_length end document whole false e h = absurd (given_is_no_refusal h)
  by_length end document whole true e h =
      let same : document ≡ whole = given_bytes h in
      let short : length whole ≤ DOCUMENT_MAX = grind (arith, nat_tests, e) in
      (subst (λ (d : List ℕ). length d ≤ DOCUMENT_MAX) (sym same) short, same)

  by_standing : (end : End) (document : List ℕ) (s : RunStatus) → (look g o.seed o.starts o.until o.events).standing ≡ s
      → Given end document ≡ unless_finished s (unless_too_long (document_reached g o.seed o.events (reached_from g o.seed o.until o.events (start g o.starts)))) → KeptRun document
  by_standing end document Going going h =
      let (fits, is) = by_length end document (document_reached g o.seed o.events (reached_from g o.seed o.until o.events (start g o.starts))) _ refl h in
      record { going = going; fits = fits; is = is }
  by_standing end document (Ended t) so h = absurd (given_is_no_refusal h)
  by_standing end document Stopped so h = absurd (given_is_no_refusal h)
  by_standing end document (Faulted t kind) so h = absurd (given_is_no_refusal h)

  kept : KeepsStaticRules g × IsSpellable g
  kept = (facts.by_parts g).0 (text, reads)

  module _ (document : List ℕ) where
    saves : IsTrue (allowed g o.starts) → KeptRun document → SavesTheRun text document o
    saves taken run =
        let (m, goes, resumes) = facts.resumes g o.seed o.starts o.until o.events kept.0 kept.1 limits.1 taken limits.0 limits.2 run.going in
        let s : SavedRun = saved o.seed o.events m in
        let written : document ≡ saved_document g s = run.is ∙ ap (document_reached g o.seed o.events) goes.reaches in
        let (w, v, spells, accepted, good, means) = facts.reads_back g s kept.0 kept.1 resumes.good in
        let back : ReadsSaved document g s = subst (λ (d : List ℕ). ReadsSaved d g s) (sym written)
        (record { fits = subst (λ (d : List ℕ). length d ≤ DOCUMENT_MAX) written run.fits; model = w; snapshot = v; spells = spells; accepted = accepted; good = good; means = means }) in
        record {
          model = g;
          reads = reads;
          here = m;
          reaches = goes.reaches;
          early = goes.early;
          written = written;
          reads_back = back;
          goes_on = resumes;
          resumed = is_resumed g s;
        }

    by_start : (end : End) (refusal : Option (List ℕ)) → start_refusal g o.starts ≡ refusal → Given end document ≡ refused_or refusal (saving_answer g o) → SavesTheRun text document o
    by_start end (Some line) e h = absurd (given_is_no_refusal h)
    by_start end None e h = saves (unrefused_start g o.starts e) (by_standing end document (look g o.seed o.starts o.until o.events).standing refl h)

module _ (facts : SavedFacts) (o : SaveOptions) (text document : List ℕ) (end : End) (limits : KeepsLimits (OfModel (Save o))) where
  of_response : Responds (OfModel (Save o)) text (Given end document) → SavesTheRun text document o
  of_response (inl h) = absurd (given_is_no_refusal h.refuses)
  of_response (inr (g, reads, answers)) = by_start facts o limits text g reads document end (start_refusal g o.starts) refl answers

  pub saved_goes_on : Answers (OfModel (Save o)) text (Given end document) → SavesTheRun text document o
  saved_goes_on (inl h) = absurd (given_is_no_refusal h.1)
  saved_goes_on (inr h) = of_response h.1
