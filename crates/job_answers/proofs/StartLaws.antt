-- Which starting values are taken: a run begins with exactly those that aren't refused, and the line for others says why.
use Rattle.std.proofs.Common.{◌≡◌, ◌≢◌, ◌==◌, Bool, inl, inr, ℕ, zero, suc, add-zero, ◌+◌, ◌<◌, ℤ, pos, true, false, List, [], ◌∷◌, length, get_or, Some, None, Result, Ok, Err, refl, sym, ap, ap₂, ◌∙◌, subst, arith}
use Rattle.std.specs.Prelude.{IsTrue, cond}
use Rattle.std.proofs.lemmas.Bool.{eq-eqb, ne_eqb}
use Rattle.std.proofs.lemmas.Bool.Decides.{nat_tests}
use lib.Pointwise.{pointwise}
use Rattle.model_core.proofs.BothTrue.{and_first, and_second}
use Rattle.model_core.specs.Run.State.{within, no_variable}
use Rattle.sig_base.specs.Sink.{Outlet}
use Rattle.run_control.specs.declared.begin_error.BeginError.{BeginError}
use Rattle.run_control.specs.declared.begin_error.BeginError.TheVariants as errors
use Rattle.run_control.specs.Beginning.{fits_at, RefusesStart}
use Rattle.answer_delivery.specs.declared.delivering.DeliveryOutcome.TheVariants as said
use Rattle.answer_delivery.specs.declared.status.Failure.TheVariants as failures
use Rattle.answer_delivery.specs.declared.status.Refusal.TheVariants as refusals
use Rattle.job_answers.specs.RunAnswer.{refused_or}
use Rattle.job_answers.specs.StartingValues.{count_line, outside_line, first_outside, start_refusal}
use Rattle.job_answers.specs.Inner.StartSteps.{IsRefusalLine, RefusesToBegin}
use Rattle.job_answers.proofs.ModelTerms.{EventGraph, Variable, allowed, start_parameters}
use Rattle.job_answers.proofs.AnswerTerms.{Answer, Refused, Failure, DeliveryOutcome, DeliversSome}

-- the line names the first value outside its range
first_outside_is : (place k : ℕ) (vs : List Variable) (xs : List ℤ) → length xs ≡ length vs → k < length xs
    → within (get_or vs k no_variable).lo (get_or vs k no_variable).hi (get_or xs k (pos 0)) ≡ false
    → ((j : ℕ) → j < k → fits_at vs xs j) → first_outside place vs xs ≡ Some (outside_line (place + k) (get_or xs k (pos 0)))
first_outside_is place k [] xs matched below outside first = absurd (omega arith)
first_outside_is place k (v ∷ vs) [] matched below outside first = absurd (omega arith)
first_outside_is place zero (v ∷ vs) (x ∷ xs) matched below outside first = rw outside (ap (λ p. Some (outside_line p x)) (sym (add-zero place)))
first_outside_is place (suc k) (v ∷ vs) (x ∷ xs) matched below outside first =
    let inside : within v.lo v.hi x ≡ true = first 0 (omega arith) in
    rw inside (first_outside_is (suc place) k vs xs (omega arith) (omega arith) outside (λ j less. first (suc j) (omega arith)) ∙ ap (λ p. Some (outside_line p (get_or xs k (pos 0)))) (omega arith))

-- the line names no value where all are in their ranges
none_outside_line : (place : ℕ) (vs : List Variable) (xs : List ℤ) → pointwise (λ v x. within v.lo v.hi x) vs xs ≡ true → (length vs ≡ length xs) × (first_outside place vs xs ≡ None)
none_outside_line place [] [] all = (refl, refl)
none_outside_line place [] (x ∷ xs) all = absurd cc
none_outside_line place (v ∷ vs) [] all = absurd cc
none_outside_line place (v ∷ vs) (x ∷ xs) all =
    let inside : within v.lo v.hi x ≡ true = and_first (within v.lo v.hi x) (pointwise (λ v x. within v.lo v.hi x) vs xs) all in
    let (long, none) = none_outside_line (suc place) vs xs (and_second (within v.lo v.hi x) (pointwise (λ v x. within v.lo v.hi x) vs xs) all) in
    (omega (arith, long), rw inside none)

-- a run that begins has starting values that are taken
pub taken_start : (g : EventGraph) (starts : List ℤ) → IsTrue (allowed g starts) → start_refusal g starts ≡ None
taken_start g starts all =
    let (long, none) = none_outside_line 1 (start_parameters g) starts all in
    ap (λ b. cond b (first_outside 1 (start_parameters g) starts) (Some (count_line (length (start_parameters g)) (length starts)))) (eq-eqb _ _ long) ∙ none

-- where the line names no value, each is in its range
none_outside : (place : ℕ) (vs : List Variable) (xs : List ℤ) → length vs ≡ length xs → first_outside place vs xs ≡ None → pointwise (λ v x. within v.lo v.hi x) vs xs ≡ true
none_outside place [] [] long none = refl
none_outside place [] (x ∷ xs) long none = absurd (omega (arith, long))
none_outside place (v ∷ vs) [] long none = absurd (omega (arith, long))
none_outside place (v ∷ vs) (x ∷ xs) long none = by (within v.lo v.hi x) refl (none_outside (suc place) vs xs (omega (arith, long))) none
  where
    by : (b : Bool) → within v.lo v.hi x ≡ b → (first_outside (suc place) vs xs ≡ None → pointwise (λ v x. within v.lo v.hi x) vs xs ≡ true)
        → cond b (first_outside (suc place) vs xs) (Some (outside_line place x)) ≡ None → pointwise (λ v x. within v.lo v.hi x) (v ∷ vs) (x ∷ xs) ≡ true
    by true inside rest none = rw inside (rest none)
    by false outside rest none = absurd cc

-- a run begins with starting values that aren't refused
pub unrefused_start : (g : EventGraph) (starts : List ℤ) → start_refusal g starts ≡ None → IsTrue (allowed g starts)
unrefused_start g starts none = by (length (start_parameters g) == length starts) refl none
  where
    by : (b : Bool) → (length (start_parameters g) == length starts) ≡ b → cond b (first_outside 1 (start_parameters g) starts) (Some (count_line (length (start_parameters g)) (length starts))) ≡ None → IsTrue (allowed g starts)
    by true same none = none_outside 1 (start_parameters g) starts (grind (arith, nat_tests, same)) none
    by false other none = absurd cc

-- a run that can't begin is refused with that line
pub refused_start : (g : EventGraph) (starts : List ℤ) (error : BeginError) (line : List ℕ) → RefusesStart g starts error → IsRefusalLine error line → start_refusal g starts ≡ Some line
refused_start g starts (errors.StartCount needed given) line refuses is =
    let differ : length (start_parameters g) ≢ length starts = λ same. refuses.differ (refuses.needs ∙ same ∙ sym refuses.has) in
    ap (λ b. cond b (first_outside 1 (start_parameters g) starts) (Some (count_line (length (start_parameters g)) (length starts)))) (ne_eqb _ _ differ)
    ∙ ap₂ (λ n m. Some (count_line n m)) (sym refuses.needs) (sym refuses.has) ∙ ap (λ l. Some l) (sym is)
refused_start g starts (errors.StartOutside place value) line refuses is =
    let found = refuses.2 in
    let first = first_outside_is 1 refuses.0 (start_parameters g) starts found.matched found.below (subst (λ x. within (get_or (start_parameters g) refuses.0 no_variable).lo (get_or (start_parameters g) refuses.0 no_variable).hi x ≡ false) found.is found.outside) found.first in
    let one_more : 1 + refuses.0 ≡ place = omega (arith, refuses.1) in
    ap (λ b. cond b (first_outside 1 (start_parameters g) starts) (Some (count_line (length (start_parameters g)) (length starts)))) (eq-eqb _ _ (sym found.matched))
    ∙ first ∙ ap₂ (λ n x. Some (outside_line n x)) one_more (sym found.is) ∙ ap (λ l. Some l) (sym is)
refused_start g starts errors.NoMemory line refuses is = absurd is

-- a run that can't begin is refused, whatever its history would be
pub start_refused : {K : Type 0} (sight : K → Outlet) (g : EventGraph) (starts : List ℤ) (other : Answer) (Short : Type 0) (error : BeginError) (r : Result DeliveryOutcome Failure) (o : K) → ((line : List ℕ) → IsRefusalLine error line → RefusesStart g starts error) → RefusesToBegin error r
    → DeliversSome sight (λ a. a ≡ refused_or (start_refusal g starts) other) Short r o o
start_refused sight g starts other Short error (Ok (said.Refused refusals.BadStart line)) o refuses h = inl (record {
  answer = Refused refusals.BadStart line;
  holds = ap (λ s. refused_or s other) (sym (refused_start g starts error line (refuses line h) h));
  delivers = (refl, refl, refl);
  short = λ e. absurd cc;
})
start_refused sight g starts other Short error (Ok (said.Refused refusals.Refused line)) o refuses h = absurd h
start_refused sight g starts other Short error (Ok (said.Refused refusals.Finished line)) o refuses h = absurd h
start_refused sight g starts other Short error (Ok (said.Refused refusals.TooLarge line)) o refuses h = absurd h
start_refused sight g starts other Short error (Ok (said.Gave end)) o refuses h = absurd h
start_refused sight g starts other Short error (Err failures.NoMemory) o refuses h = inr (refl, refl)
start_refused sight g starts other Short error (Err failures.Usage) o refuses h = absurd h
start_refused sight g starts other Short error (Err failures.ReadFault) o refuses h = absurd h
start_refused sight g starts other Short error (Err failures.WriteFault) o refuses h = absurd h
