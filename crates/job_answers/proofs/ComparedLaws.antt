-- From an answer of `compare` to what it was found by.
use Rattle.std.proofs.Common.{◌≡◌, ◌⊎◌, inl, inr, ℕ, zero, suc, ◌+◌, ◌<◌, ◌≤◌, Bool, true, false, List, Option, Some, None, refl, sym, ◌∙◌, subst, arith}
use Rattle.std.proofs.lemmas.Bool.{cases_lt}
use Rattle.command_words.specs.declared.compare_options.CompareOptions.{CompareOptions}
use Rattle.model_pairs.specs.declared.line_pair.LinePair.{LinePair}
use Rattle.model_pairs.specs.declared.lines_apart.LinesApart.{LinesApart}
use Rattle.model_pairs.specs.RunsApart.{runs_apart}
use Rattle.answer_delivery.specs.declared.status.End.TheVariants as ends
use Rattle.job_answers.specs.CompareAnswer.{declared_text, run_text, same_text, unknown_text, run_or, answer_of_runs, declared_or, same_or}
use Rattle.job_answers.specs.ReplicateAnswer.{seed_of_run}
use Rattle.job_answers.specs.RunAnswer.{refused_or}
use Rattle.job_answers.proofs.ModelTerms.{EventGraph}
use Rattle.job_answers.proofs.AnswerTerms.{Answer, Given}
use Rattle.job_answers.proofs.GivenAnswers.{given_is_no_refusal, given_bytes}

-- ---- before the runs

-- what was found if an answer is done
pub record SaidSame (refusal : Option (List ℕ)) (d : Option LinePair) (b : Bool) (bytes : List ℕ) : Type 0 where
  pub declared : d ≡ None
  pub one_form : b ≡ true
  pub written : bytes ≡ same_text

pub said_same : (refusal : Option (List ℕ)) (d : Option LinePair) (b : Bool) (later : Answer) (bytes : List ℕ) → (Given ends.Done bytes ≡ later → ⊥)
    → Given ends.Done bytes ≡ refused_or refusal (declared_or d (same_or b later)) → SaidSame refusal d b bytes
said_same (Some line) d b later bytes never e = absurd (given_is_no_refusal e)
said_same None (Some lines) b later bytes never e = absurd cc
said_same None None true later bytes never e = record { declared = refl; one_form = refl; written = given_bytes e }
said_same None None false later bytes never e = absurd (never e)

-- what was found if an answer is that models differ
abbrev pub SaidApart : Option (List ℕ) → Option LinePair → Answer → List ℕ → Type 0
SaidApart refusal d later bytes = (refusal ≡ None) × (((lines : LinePair) × (d ≡ Some lines) × (bytes ≡ declared_text lines)) ⊎ ((d ≡ None) × (Given ends.Differs bytes ≡ later)))

pub said_apart : (refusal : Option (List ℕ)) (d : Option LinePair) (b : Bool) (later : Answer) (bytes : List ℕ)
    → Given ends.Differs bytes ≡ refused_or refusal (declared_or d (same_or b later)) → SaidApart refusal d later bytes
said_apart (Some line) d b later bytes e = absurd (given_is_no_refusal e)
said_apart None (Some lines) b later bytes e = (refl, inl (lines, refl, given_bytes e))
said_apart None None true later bytes e = absurd cc
said_apart None None false later bytes e = (refl, inr (refl, e))

-- an answer that nothing is known is that of the runs
pub said_nothing : (refusal : Option (List ℕ)) (d : Option LinePair) (b : Bool) (later : Answer) (bytes : List ℕ)
    → Given ends.Unknown bytes ≡ refused_or refusal (declared_or d (same_or b later)) → Given ends.Unknown bytes ≡ later
said_nothing (Some line) d b later bytes e = absurd (given_is_no_refusal e)
said_nothing None (Some lines) b later bytes e = absurd cc
said_nothing None None true later bytes e = absurd cc
said_nothing None None false later bytes e = e

-- ---- the runs

module _ (g h : EventGraph) (o : CompareOptions) where
  -- the lines at which the runs of a number differ
  abbrev pub lines_at : ℕ → Option LinesApart
  lines_at number = runs_apart g h (seed_of_run o.seed 1 number) o.until o.events o.starts

  not_done : (number seed : ℕ) (found : Option LinesApart) (later : Answer) (bytes : List ℕ) → (Given ends.Done bytes ≡ later → ⊥) → Given ends.Done bytes ≡ run_or number seed found later → ⊥
  not_done number seed (Some lines) later bytes never e = cc
  not_done number seed None later bytes never e = never e

  -- no runs show that models mean the same
  pub runs_not_done : (number n : ℕ) (bytes : List ℕ) → Given ends.Done bytes ≡ answer_of_runs g h o number n → ⊥
  runs_not_done number zero bytes e = cc
  runs_not_done number (suc n) bytes e =
      not_done number (seed_of_run o.seed 1 number) (lines_at number) (answer_of_runs g h o (number + 1) n) bytes (λ later. runs_not_done (number + 1) n bytes later) e

  -- the runs of a number below an end differ
  pub record RunApart (from end : ℕ) (bytes : List ℕ) : Type 0 where
    pub number : ℕ
    pub first : from ≤ number
    pub last : number < end
    pub lines : LinesApart
    pub found : lines_at number ≡ Some lines
    pub written : bytes ≡ run_text number (seed_of_run o.seed 1 number) lines

  pub runs_apart_at : (number n : ℕ) (bytes : List ℕ) → Given ends.Differs bytes ≡ answer_of_runs g h o number n → RunApart number (number + n) bytes
  runs_apart_at number zero bytes e = absurd cc
  runs_apart_at number (suc n) bytes e = by (lines_at number) refl (λ said. runs_apart_at (number + 1) n bytes said) e
    where
      more : RunApart (number + 1) (number + 1 + n) bytes → RunApart number (number + suc n) bytes
      more r = record { number = r.number; first = let f = r.first in omega (arith, f); last = let l = r.last in omega (arith, l); lines = r.lines; found = r.found; written = r.written }

      by : (found : Option LinesApart) → lines_at number ≡ found → (Given ends.Differs bytes ≡ answer_of_runs g h o (number + 1) n → RunApart (number + 1) (number + 1 + n) bytes)
          → Given ends.Differs bytes ≡ run_or number (seed_of_run o.seed 1 number) found (answer_of_runs g h o (number + 1) n) → RunApart number (number + suc n) bytes
      by (Some lines) is later said = record { number = number; first = omega arith; last = omega arith; lines = lines; found = is; written = given_bytes said }
      by None is later said = more (later said)

  -- no runs of these numbers differ
  abbrev pub NoneApart : ℕ → ℕ → Type 0
  NoneApart from end = (number : ℕ) → from ≤ number → number < end → lines_at number ≡ None

  pub no_runs_apart : (number n : ℕ) (bytes : List ℕ) → Given ends.Unknown bytes ≡ answer_of_runs g h o number n → (bytes ≡ unknown_text) × NoneApart number (number + n)
  no_runs_apart number zero bytes e = (given_bytes e, λ k from below. absurd (omega (arith, from, below)))
  no_runs_apart number (suc n) bytes e = by (lines_at number) refl (λ said. no_runs_apart (number + 1) n bytes said) e
    where
      split : (k : ℕ) → number ≤ k → (number ≡ k) ⊎ (number + 1 ≤ k)
      split k from = elim (cases_lt number k) [ inl more ↦ inr (omega (arith, more)) | inr same ↦ inl (omega (arith, same, from)) ]

      all : lines_at number ≡ None → NoneApart (number + 1) (number + 1 + n) → NoneApart number (number + suc n)
      all here later k from below = elim (split k from) [ inl same ↦ subst (λ (m : ℕ). lines_at m ≡ None) same here | inr more ↦ later k more (omega (arith, below)) ]

      by : (found : Option LinesApart) → lines_at number ≡ found → (Given ends.Unknown bytes ≡ answer_of_runs g h o (number + 1) n → (bytes ≡ unknown_text) × NoneApart (number + 1) (number + 1 + n))
          → Given ends.Unknown bytes ≡ run_or number (seed_of_run o.seed 1 number) found (answer_of_runs g h o (number + 1) n) → (bytes ≡ unknown_text) × NoneApart number (number + suc n)
      by (Some lines) is later said = absurd cc
      by None is later said = let rest = later said in (rest.0, all is rest.1)
