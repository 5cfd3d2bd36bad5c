-- At most one urgent event: in the words of its definition, and in the form that the proofs use.
use Rattle.std.proofs.Common.{◌≡◌, ◌⊎◌, inl, inr, ℕ, suc, ◌<◌, ◌≤◌, ◌==◌, Bool, true, false, cond, List, [], ◌∷◌, refl, sym, ◌∙◌, ap, subst, arith}
use Rattle.std.proofs.lemmas.Bool.Decides.{nat_tests}
use Rattle.model_core.specs.Run.Pending.{Entry}
use Rattle.std.specs.List.{AllByRecursion}
use Rattle.model_core.specs.Rules.BetweenSteps.{urgent_count, AtMostOneUrgent}
use Rattle.merge_rules.proofs.SingleUrgentModels.UrgentEvents.{NotUrgent, UrgentNow, OneUrgent}

zero-is : (p : ℕ) → (p == 0) ≡ true → p ≡ 0
zero-is p e = grind (arith, nat_tests)

above-zero : (p : ℕ) → (p == 0) ≡ false → 0 < p
above-zero p e = grind (arith, nat_tests)

is-zero : (p : ℕ) → p ≡ 0 → (p == 0) ≡ true
is-zero p e = grind (arith, nat_tests)

not-zero : (p : ℕ) → 0 < p → (p == 0) ≡ false
not-zero p e = grind (arith, nat_tests)

all-not_urgent : (es : List Entry) → urgent_count es ≤ 0 → AllByRecursion NotUrgent es
all-not_urgent [] none = tt
all-not_urgent (e ∷ es) none = one (e.priority == 0) refl none (all-not_urgent es) where
  one : (b : Bool) → (e.priority == 0) ≡ b → cond b (suc (urgent_count es)) (urgent_count es) ≤ 0 → (urgent_count es ≤ 0 → AllByRecursion NotUrgent es) → NotUrgent e × AllByRecursion NotUrgent es
  one true is none later = absurd (omega arith)
  one false is none later = (above-zero e.priority is, later none)

pub one_urgent-of : (t : ℕ) (es : List Entry) → AtMostOneUrgent t es → OneUrgent t es
one_urgent-of t [] facts = tt
one_urgent-of t (e ∷ es) facts = one (e.priority == 0) refl facts.one (λ fewer. one_urgent-of t es (record { one = fewer; now = facts.now.1 })) where
  one : (b : Bool) → (e.priority == 0) ≡ b → cond b (suc (urgent_count es)) (urgent_count es) ≤ 1 → (urgent_count es ≤ 1 → OneUrgent t es) → (NotUrgent e × OneUrgent t es) ⊎ (UrgentNow t e × AllByRecursion NotUrgent es)
  one true is few later = inr ((facts.now.0 (zero-is e.priority is), zero-is e.priority is), all-not_urgent es (omega arith))
  one false is few later = inl (above-zero e.priority is, later few)

none-urgent : (t : ℕ) (es : List Entry) → AllByRecursion NotUrgent es → AtMostOneUrgent t es × (urgent_count es ≡ 0)
none-urgent t [] all = (record { one = omega arith; now = tt }, refl)
none-urgent t (e ∷ es) (some, all) =
    let (facts, none) = none-urgent t es all in
    let count : urgent_count (e ∷ es) ≡ 0 = ap (λ b. cond b (suc (urgent_count es)) (urgent_count es)) (not-zero e.priority some) ∙ none in
    (record { one = subst (λ n. n ≤ 1) (sym count) (omega arith); now = ((λ is. absurd (omega (arith, some))), facts.now) }, count)

pub of-one_urgent : (t : ℕ) (es : List Entry) → OneUrgent t es → AtMostOneUrgent t es
of-one_urgent t [] urgent = record { one = omega arith; now = tt }
of-one_urgent t (e ∷ es) (inl (some, urgent)) =
    let facts = of-one_urgent t es urgent in
    let count : urgent_count (e ∷ es) ≡ urgent_count es = ap (λ b. cond b (suc (urgent_count es)) (urgent_count es)) (not-zero e.priority some) in
    record { one = subst (λ n. n ≤ 1) (sym count) facts.one; now = ((λ is. absurd (omega (arith, some))), facts.now) }
of-one_urgent t (e ∷ es) (inr ((time, priority), all)) =
    let (facts, none) = none-urgent t es all in
    let count : urgent_count (e ∷ es) ≡ 1 = ap (λ b. cond b (suc (urgent_count es)) (urgent_count es)) (is-zero e.priority priority) ∙ ap suc none in
    record { one = omega (arith, count); now = ((λ is. time), facts.now) }
