-- A text that isn't refused reads as two models, of which the answer was found.
use Rattle.std.proofs.Common.{◌≡◌, inl, inr, ℕ, ◌+◌, ◌<◌, ◌≤◌, ◌*◌, ◌-◌, ◌%◌, ◌^◌, List, refl, sym, ap, ◌∙◌, subst, arith}
use Rattle.command_words.specs.declared.compare_options.CompareOptions.{CompareOptions}
use Rattle.command_words.specs.declared.reading.PairJob.TheVariants.{Compare}
use Rattle.command_words.specs.declared.reading.Reading.TheVariants.{Pair as OfPair}
use Rattle.command_words.specs.KeptLimits.{KeepsLimits}
use Rattle.answer_delivery.specs.declared.status.End.TheVariants as ends
use Rattle.model_pairs.specs.DeclaredApart.{declared_apart}
use Rattle.normal_form.specs.OneForm.{equal_but_names}
use Rattle.job_answers.specs.Answers.{AnswersPair, Responds, Answers}
use Rattle.job_answers.specs.ComparedModels.{FoundSame, ShownApart, in_declarations, in_runs, FoundApart, FoundNothing}
use Rattle.job_answers.specs.CompareAnswer.{answer_of_runs}
use Rattle.job_answers.specs.PairReading.{ReadsPair}
use Rattle.job_answers.specs.ReplicateAnswer.{seed_of_run}
use Rattle.job_answers.specs.StartingValues.{start_refusal}
use Rattle.job_answers.proofs.ModelTerms.{EventGraph}
use Rattle.job_answers.proofs.AnswerTerms.{Answer, Given, End}
use Rattle.job_answers.proofs.ComparedLaws.{SaidApart, said_same, said_apart, said_nothing, runs_not_done, RunApart, runs_apart_at, no_runs_apart}
use Rattle.job_answers.proofs.GivenAnswers.{given_is_no_refusal}
use Rattle.job_answers.proofs.SavedModels.{pair_models_valid}
use Rattle.job_answers.proofs.StartLaws.{unrefused_start}
use Rattle.job_answers.proofs.compare_law.compared_models_are_as_answered.Goals as goal

-- two models as which the text reads, and their answer
record Compared (o : CompareOptions) (text : List ℕ) (a : Answer) : Type 0 where
  first : EventGraph
  second : EventGraph
  reads : ReadsPair text first second
  answers : AnswersPair (Compare o) first second a

of_response : (o : CompareOptions) (text bytes : List ℕ) (end : End) → Responds (OfPair (Compare o)) text (Given end bytes) → Compared o text (Given end bytes)
of_response o text bytes end (inl h) = absurd (given_is_no_refusal h.refuses)
of_response o text bytes end (inr (g, h, reads, answers)) = record { first = g; second = h; reads = reads; answers = answers }

of_answer : (o : CompareOptions) (text bytes : List ℕ) (end : End) → Answers (OfPair (Compare o)) text (Given end bytes) → Compared o text (Given end bytes)
of_answer o text bytes end (inl over) = absurd (given_is_no_refusal over.1)
of_answer o text bytes end (inr h) = of_response o text bytes end h.1

below_seeds : (n : ℕ) → n % 2 ^ 64 < 2 ^ 64
below_seeds n = omega arith

pub returns-clause-same : goal.returns-clause-same
returns-clause-same c = λ o text bytes answers.
    let r = of_answer o text bytes ends.Done answers in
    let g = r.first in
    let h = r.second in
    let (forms, is) = r.answers in
    let valid = pair_models_valid text g h r.reads in
    let said = said_same (start_refusal g o.starts) (declared_apart g h) (equal_but_names forms.first forms.second) (answer_of_runs g h o 1 o.runs) bytes (runs_not_done g h o 1 o.runs bytes) is in
    record {
      first = g;
      second = h;
      reads = r.reads;
      written = said.written;
      alike = c.models_with_one_normal_form_are_alike.ensures g h forms.first forms.second valid.0 valid.1 forms.of_first forms.of_second said.one_form (c.declared_lines_decide.ensures.none g h said.declared);
    }

pub returns-clause-apart : goal.returns-clause-apart
returns-clause-apart c = λ o text bytes limits answers.
    let r = of_answer o text bytes ends.Differs answers in
    let g = r.first in
    let h = r.second in
    found o text bytes limits g h r.reads
    (said_apart (start_refusal g o.starts) (declared_apart g h) (equal_but_names r.answers.0.first r.answers.0.second) (answer_of_runs g h o 1 o.runs) bytes r.answers.1)
  where
    found : (o : CompareOptions) (text bytes : List ℕ) → KeepsLimits (OfPair (Compare o)) → (g h : EventGraph) → ReadsPair text g h
        → SaidApart (start_refusal g o.starts) (declared_apart g h) (answer_of_runs g h o 1 o.runs) bytes → FoundApart o text bytes
    found o text bytes limits g h reads (taken, inl (lines, is, written)) = record {
      first = g;
      second = h;
      reads = reads;
      shown = in_declarations lines is written;
      not_alike = c.models_apart_are_not_alike.ensures.declared g h (c.declared_lines_decide.ensures.some g h lines is);
    }
    found o text bytes limits g h reads (taken, inr (none, said)) =
        let at = runs_apart_at g h o 1 o.runs bytes said in
        let seed = seed_of_run o.seed 1 at.number in
        let looks = c.lines_apart_are_looks_apart.ensures g h (c.declared_lines_decide.ensures.none g h none) seed o.until o.events o.starts at.lines at.found in
        record {
          first = g;
          second = h;
          reads = reads;
          shown = in_runs at.number at.first (let l = at.last in omega (arith, l)) looks at.lines at.found at.written;
          not_alike = c.models_apart_are_not_alike.ensures.looks g h seed (below_seeds (o.seed + (at.number - 1) * 1)) o.starts (unrefused_start g o.starts taken) o.until limits.0 o.events o.events looks;
        }

pub returns-clause-nothing : goal.returns-clause-nothing
returns-clause-nothing c = λ o text bytes answers.
    let r = of_answer o text bytes ends.Unknown answers in
    let g = r.first in
    let h = r.second in
    let (forms, is) = r.answers in
    let (written, none) = no_runs_apart g h o 1 o.runs bytes (said_nothing (start_refusal g o.starts) (declared_apart g h) (equal_but_names forms.first forms.second) (answer_of_runs g h o 1 o.runs) bytes is) in
    record {
      first = g;
      second = h;
      reads = r.reads;
      written = written;
      none_apart = λ number from last. none number from (omega (arith, last));
    }
