-- The laws of the answer of `compare`: there is one, and it has bytes.
use Rattle.std.proofs.Common.{◌≡◌, inr, ℕ, zero, suc, ◌+◌, ◌-◌, ◌<◌, ◌≤◌, ℤ, Bool, true, false, List, ◌++◌, length, Option, Some, None, Result, Ok, Err, IsTrue, refl, sym, ap, ap₂, ◌∙◌, subst, arith}
use Rattle.std.specs.Prelude.{codes, decimal, IfOk}
use Rattle.std.proofs.lemmas.List.{length-append}
use Rattle.sig_base.specs.declared.no_memory.NoMemory.{NoMemory}
use Rattle.sig_base.proofs.Lists.{places_from, no_places_from}
use Rattle.command_words.specs.declared.compare_options.CompareOptions.{CompareOptions}
use Rattle.command_words.specs.declared.reading.PairJob.TheVariants.{Compare}
use Rattle.command_words.specs.declared.reading.Reading.TheVariants.{Pair as OfPair}
use Rattle.normal_form.specs.Normal.{Normal}
use Rattle.normal_form.specs.OneForm.{NormalForms, equal_but_names}
use Rattle.model_pairs.specs.declared.line_pair.LinePair.{LinePair}
use Rattle.model_pairs.specs.declared.lines_apart.LinesApart.{LinesApart}
use Rattle.model_pairs.specs.DeclaredApart.{declared_apart}
use Rattle.model_pairs.specs.RunsApart.{runs_apart}
use Rattle.answer_delivery.specs.declared.status.End.TheVariants as ends
use Rattle.answer_delivery.specs.declared.status.Status.TheVariants as statuses
use Rattle.job_answers.specs.AnswerLaws.{KeepsAnswerLaws}
use Rattle.job_answers.specs.CompareAnswer.{both_lines, declared_text, run_text, unknown_text, run_or, answer_of_runs, declared_or, same_text, same_or, comparing_answer, compare_answer, OfForms, Compares}
use Rattle.job_answers.specs.ReplicateAnswer.{seed_of_run}
use Rattle.job_answers.specs.RunAnswer.{refused_or}
use Rattle.job_answers.specs.StartingValues.{start_refusal}
use Rattle.job_answers.proofs.ModelTerms.{EventGraph, allowed, IsValid}
use Rattle.job_answers.proofs.AnswerTerms.{Answer, Given, End, status_of_answer}
use Rattle.job_answers.proofs.GivenAnswers.{given_is_no_refusal, some_bytes, end_unrefused}
use Rattle.job_answers.proofs.StartLaws.{taken_start}
use Rattle.job_answers.proofs.commands.RewritingLaws.{BecomesOne}

-- an answer that isn't refused: it is given, with some bytes
record IsGiven (a : Answer) : Type 0 where
  end : End
  bytes : List ℕ
  is : a ≡ Given end bytes
  some : 0 < length bytes

some_text : (front behind : List ℕ) → 0 < length front → 0 < length (front ++ behind)
some_text front behind some = omega (arith, length-append front behind, some)

run_given : (number seed : ℕ) (o : Option LinesApart) (later : Answer) → IsGiven later → IsGiven (run_or number seed o later)
run_given number seed (Some lines) later given = record {
  end = ends.Differs;
  bytes = run_text number seed lines;
  is = refl;
  some = some_text (codes "differs\nrun " ++ decimal number ++ codes " seed " ++ decimal seed ++ codes " line " ++ decimal lines.line ++ codes "\n") (both_lines lines.first lines.second) (some_text (codes "differs\nrun ") _ (omega arith));
}
run_given number seed None later given = given

runs_given : (g h : EventGraph) (o : CompareOptions) (number n : ℕ) → IsGiven (answer_of_runs g h o number n)
runs_given g h o number zero = record { end = ends.Unknown; bytes = unknown_text; is = refl; some = omega arith }
runs_given g h o number (suc n) =
    let seed = seed_of_run o.seed 1 number in
    run_given number seed (runs_apart g h seed o.until o.events o.starts) (answer_of_runs g h o (number + 1) n) (runs_given g h o (number + 1) n)

declared_given : (o : Option LinePair) (later : Answer) → IsGiven later → IsGiven (declared_or o later)
declared_given (Some lines) later given = record {
  end = ends.Differs;
  bytes = declared_text lines;
  is = refl;
  some = some_text (codes "differs\ndeclared\n") (both_lines lines.first lines.second) (omega arith);
}
declared_given None later given = given

same_given : (b : Bool) (later : Answer) → IsGiven later → IsGiven (same_or b later)
same_given true later given = record { end = ends.Done; bytes = same_text; is = refl; some = omega arith }
same_given false later given = given

comparing_given : (g h one other : EventGraph) (o : CompareOptions) → IsGiven (comparing_answer g h one other o)
comparing_given g h one other o =
    let runs = answer_of_runs g h o 1 o.runs in
    declared_given (declared_apart g h) (same_or (equal_but_names one other) runs) (same_given (equal_but_names one other) runs (runs_given g h o 1 o.runs))

-- a comparison that begins isn't refused
pub begun_comparison : (g h one other : EventGraph) (o : CompareOptions) → IsTrue (allowed g o.starts) → comparing_answer g h one other o ≡ compare_answer g h one other o
begun_comparison g h one other o taken = ap (λ s. refused_or s (comparing_answer g h one other o)) (sym (taken_start g o.starts taken))

has_bytes : (refusal : Option (List ℕ)) (a : Answer) → IsGiven a → (end : End) (bytes : List ℕ) → Given end bytes ≡ refused_or refusal a → 0 < length bytes
has_bytes (Some line) a given end bytes e = absurd (given_is_no_refusal e)
has_bytes None a given end bytes e = some_bytes given.some (e ∙ given.is)

unrefused : (refusal : Option (List ℕ)) (a : Answer) → IsGiven a → status_of_answer (refused_or refusal a) ≡ statuses.Refused → ⊥
unrefused (Some line) a given e = cc
unrefused None a given e = end_unrefused given.end (sym (ap status_of_answer given.is) ∙ e)

-- two valid models have normal forms
pub forms_of : BecomesOne Normal → (g h : EventGraph) → IsValid g → IsValid h → NormalForms g h
forms_of law g h valid other_valid =
    let one = law.ends g valid in
    let other = law.ends h other_valid in
    record { first = one.0; second = other.0; of_first = one.1; of_second = other.1 }

pub compare_laws : BecomesOne Normal → (options : CompareOptions) → KeepsAnswerLaws (OfPair (Compare options))
compare_laws law options = record {
  exists = λ d valid. let forms = forms_of law d.0 d.1 valid.0 valid.1 in (compare_answer d.0 d.1 forms.first forms.second options, (forms, refl));
  one = λ d a b x y.
      x.1
      ∙ ap₂ (λ (one other : EventGraph). compare_answer d.0 d.1 one other options) (law.determined d.0 x.0.first y.0.first x.0.of_first y.0.of_first) (law.determined d.1 x.0.second y.0.second x.0.of_second y.0.of_second)
      ∙ sym y.1;
  has_bytes = λ d end bytes h. inr (has_bytes (start_refusal d.0 options.starts) (comparing_answer d.0 d.1 h.0.first h.0.second options) (comparing_given d.0 d.1 h.0.first h.0.second options) end bytes h.1);
  unrefused = λ d a h e. unrefused (start_refusal d.0 options.starts) (comparing_answer d.0 d.1 h.0.first h.0.second options) (comparing_given d.0 d.1 h.0.first h.0.second options) (sym (ap status_of_answer h.1) ∙ e);
}

-- ---- run by run

-- what isn't some lines is none
pub not_some : (found : Option LinesApart) → ((lines : LinesApart) → found ≡ Some lines → ⊥) → found ≡ None
not_some None never = refl
not_some (Some lines) never = absurd (never lines refl)

module _ (g h : EventGraph) (o : CompareOptions) (number : ℕ) where
  -- what the runs from this number on show
  abbrev pub AnswerFrom : Answer
  AnswerFrom = answer_of_runs g h o number (o.runs + 1 - number)

  from_this : number < o.runs + 1 → (seed : ℕ) (starts : List ℤ) (found : Option LinesApart) → seed ≡ seed_of_run o.seed 1 number → starts ≡ o.starts → found ≡ runs_apart g h seed o.until o.events starts
      → AnswerFrom ≡ run_or number seed found (answer_of_runs g h o (number + 1) (o.runs + 1 - (number + 1)))
  from_this below seed starts found is_seed is_starts is =
      let later = answer_of_runs g h o (number + 1) (o.runs + 1 - (number + 1)) in
      ap (answer_of_runs g h o number) (places_from number (o.runs + 1) below)
      ∙ ap (λ s. run_or number s (runs_apart g h s o.until o.events o.starts) later) (sym is_seed)
      ∙ ap (λ (x : List ℤ). run_or number seed (runs_apart g h seed o.until o.events x) later) (sym is_starts)
      ∙ ap (λ f. run_or number seed f later) (sym is)

  -- the runs of this number don't differ
  pub next_runs : number < o.runs + 1 → (seed : ℕ) (starts : List ℤ) (found : Option LinesApart) → seed ≡ seed_of_run o.seed 1 number → starts ≡ o.starts → found ≡ runs_apart g h seed o.until o.events starts
      → found ≡ None → (all : Answer) → AnswerFrom ≡ all → answer_of_runs g h o (number + 1) (o.runs + 1 - (number + 1)) ≡ all
  next_runs below seed starts found is_seed is_starts is none all so_far =
      sym (from_this below seed starts found is_seed is_starts is ∙ ap (λ f. run_or number seed f (answer_of_runs g h o (number + 1) (o.runs + 1 - (number + 1)))) none) ∙ so_far

  -- they differ
  pub these_differ : number < o.runs + 1 → (seed : ℕ) (starts : List ℤ) (found : Option LinesApart) → seed ≡ seed_of_run o.seed 1 number → starts ≡ o.starts → found ≡ runs_apart g h seed o.until o.events starts
      → (lines : LinesApart) → found ≡ Some lines → (all : Answer) → AnswerFrom ≡ all → Given ends.Differs (run_text number seed lines) ≡ all
  these_differ below seed starts found is_seed is_starts is lines some all so_far =
      sym (from_this below seed starts found is_seed is_starts is ∙ ap (λ f. run_or number seed f (answer_of_runs g h o (number + 1) (o.runs + 1 - (number + 1)))) some) ∙ so_far

  -- there are no more
  pub none_differs : o.runs + 1 ≤ number → (all : Answer) → AnswerFrom ≡ all → Given ends.Unknown unknown_text ≡ all
  none_differs over all so_far = sym (ap (answer_of_runs g h o number) (no_places_from number (o.runs + 1) over)) ∙ so_far

-- ---- what is known of the normal forms

-- the models have normal forms, of which this is what was found
abbrev pub FoundForms : EventGraph → EventGraph → Bool → Type 0
FoundForms g h found = (forms : NormalForms g h) × (found ≡ equal_but_names forms.first forms.second)

module _ (g h g2 h2 : EventGraph) (found : Bool) (first : g2 ≡ g) (second : h2 ≡ h) (forms : FoundForms g2 h2 found) where
  of_both : FoundForms g h found
  of_both = subst (λ (k : EventGraph). FoundForms g k found) second (subst (λ (k : EventGraph). FoundForms k h2 found) first forms)

  -- the forms are equal but for names
  pub forms_said : found ≡ true → (later : Answer) (bytes : List ℕ) → bytes ≡ same_text → OfForms g h (λ one other. same_or (equal_but_names one other) later) (Given ends.Done bytes)
  forms_said is later bytes written = (of_both.0, ap (λ (b : List ℕ). Given ends.Done b) written ∙ ap (λ b. same_or b later) (sym is ∙ of_both.1))

  -- they differ
  pub forms_not_said : found ≡ false → (made : Result Answer NoMemory) (later : Answer) → IfOk made (λ a. a ≡ later) → IfOk made (OfForms g h (λ one other. same_or (equal_but_names one other) later))
  forms_not_said is (Ok a) later same = (of_both.0, same ∙ ap (λ b. same_or b later) (sym is ∙ of_both.1))
  forms_not_said is (Err e) later same = tt

-- what is answered for the forms of models that declare the same is what is answered for them
pub declared_so : (g h : EventGraph) (d : Option LinePair) (forms_answer : EventGraph → EventGraph → Answer) (made : Result Answer NoMemory) → d ≡ None → IfOk made (OfForms g h forms_answer)
    → IfOk made (OfForms g h (λ one other. declared_or d (forms_answer one other)))
declared_so g h d forms_answer (Ok a) none (forms, same) = (forms, same ∙ ap (λ d. declared_or d (forms_answer forms.first forms.second)) (sym none))
declared_so g h d forms_answer (Err e) none said = tt

-- what begins is answered for the same forms
pub begun_so : (g h : EventGraph) (o : CompareOptions) (made : Result Answer NoMemory) → IsTrue (allowed g o.starts) → IfOk made (OfForms g h (λ one other. comparing_answer g h one other o)) → IfOk made (Compares g h o)
begun_so g h o (Ok a) taken (forms, same) = (forms, same ∙ begun_comparison g h forms.first forms.second o taken)
begun_so g h o (Err e) taken said = tt
