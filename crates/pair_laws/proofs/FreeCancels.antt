-- Effects that may change places: two that cancel do, unless of one vertex one takes the next away and the other the next with given
-- values.
use Rattle.std.proofs.Common.{◌≡◌, ℕ, ℤ, Bool, true, false, not, cond, eqb, List, [], ◌∷◌, refl, sym, ap, ◌∙◌, subst, arith}
use Rattle.std.proofs.lemmas.Bool.Decides.{nat_tests, Decides-int_eq}
use lib.Pointwise.{pointwise_decides}
use Rattle.model_core.specs.Run.Pending.{Entry, same_values, is_of, is_event_with, without_all}
use Rattle.model_core.proofs.BothTrue.{and_second}
use Rattle.pair_laws.specs.Effects.{Effect, Appends, CancelsNext, CancelsEqual, CancelsAll}
use Rattle.pair_laws.specs.Exchanges.{may_change}
use Rattle.order_laws.proofs.SortedTakenOff.{without_first}
use Rattle.pair_laws.proofs.TakenAway.{Excluding, first_gone, without_first-gone, all-all}
use Rattle.pair_laws.proofs.ExchangedEffects.{Exchange, on_both, exchange-apart, gone-gone, with-is}

-- ---- all that pass a test are taken away, and the first that passes a narrower one

module _ (t u : Entry → Bool) (narrower : (e : Entry) → u e ≡ true → t e ≡ true) where
  none-first : (xs : List Entry) → first_gone u (without_all t xs) ≡ without_all t xs
  none-first [] = refl
  none-first (x ∷ xs) = chosen (t x) (u x) refl refl (none-first xs) where
    chosen : (a b : Bool) → t x ≡ a → u x ≡ b → first_gone u (without_all t xs) ≡ without_all t xs → first_gone u (cond (not a) (x ∷ without_all t xs) (without_all t xs)) ≡ cond (not a) (x ∷ without_all t xs) (without_all t xs)
    chosen true b ha hb later = later
    chosen false true ha hb later = let h = narrower x hb in cc
    chosen false false ha hb later = simp hb (ap (λ l. x ∷ l) later)

  first-none : (xs : List Entry) → without_all t (first_gone u xs) ≡ without_all t xs
  first-none [] = refl
  first-none (x ∷ xs) = chosen (t x) (u x) refl refl (first-none xs) where
    chosen : (a b : Bool) → t x ≡ a → u x ≡ b → without_all t (first_gone u xs) ≡ without_all t xs → without_all t (cond b xs (x ∷ first_gone u xs)) ≡ cond (not a) (x ∷ without_all t xs) (without_all t xs)
    chosen true true ha hb later = refl
    chosen true false ha hb later = simp ha later
    chosen false true ha hb later = let h = narrower x hb in cc
    chosen false false ha hb later = simp ha (ap (λ l. x ∷ l) later)

  all-narrower : (l : List Entry) → without_first u (without_all t l) ≡ without_all t (without_first u l)
  all-narrower l = without_first-gone u (without_all t l) ∙ none-first l ∙ sym (first-none l) ∙ sym (ap (without_all t) (without_first-gone u l))

-- ---- the same vertex or another

eqb-is : (v w : ℕ) → eqb v w ≡ true → v ≡ w
eqb-is v w h = grind (arith, nat_tests)

either_vertex : (P : ℕ → Type 0) (v w : ℕ) → P v → (eqb v w ≡ false → P w) → P w
either_vertex P v w here there = chosen (eqb v w) refl where
  chosen : (b : Bool) → eqb v w ≡ b → P w
  chosen true h = subst P (eqb-is v w h) here
  chosen false h = there h

differing : (v w : ℕ) → eqb v w ≡ false → not (eqb v w) ≡ true
differing v w h = ap not h

values-one : (xs ys zs : List ℤ) → same_values zs xs ≡ true → same_values zs ys ≡ true → xs ≡ ys
values-one xs ys zs a b = sym ((pointwise_decides Decides-int_eq zs xs).0 a) ∙ (pointwise_decides Decides-int_eq zs ys).0 b

-- of one vertex: equal values, or values that no entry has both
equal-equal : (v : ℕ) (xs ys : List ℤ) → Exchange (CancelsEqual v xs) (CancelsEqual v ys)
equal-equal v xs ys = chosen (same_values xs ys) refl where
  excluded : same_values xs ys ≡ false → Excluding (is_event_with v xs) (is_event_with v ys)
  excluded apart e h = test (is_event_with v ys e) refl where
    test : (b : Bool) → is_event_with v ys e ≡ b → b ≡ false
    test true k =
        let one : xs ≡ ys = values-one xs ys e.values (and_second (is_of v e) (same_values e.values xs) h) (and_second (is_of v e) (same_values e.values ys) k) in
        let same : same_values xs ys ≡ true = (pointwise_decides Decides-int_eq xs ys).1 one in
        sym same ∙ apart
    test false k = refl

  chosen : (b : Bool) → same_values xs ys ≡ b → Exchange (CancelsEqual v xs) (CancelsEqual v ys)
  chosen true h = subst (λ zs. Exchange (CancelsEqual v xs) (CancelsEqual v zs)) ((pointwise_decides Decides-int_eq xs ys).0 h) (λ p. refl)
  chosen false h = on_both (CancelsEqual v xs) (CancelsEqual v ys) (gone-gone (is_event_with v xs) (is_event_with v ys) (excluded h))

pub exchange-effects : (f h : Effect) → may_change f h ≡ true → Exchange f h
exchange-effects (Appends a) (Appends b) may = exchange-apart (Appends a) (Appends b) may
exchange-effects (Appends a) (CancelsNext w) may = exchange-apart (Appends a) (CancelsNext w) may
exchange-effects (Appends a) (CancelsEqual w ys) may = exchange-apart (Appends a) (CancelsEqual w ys) may
exchange-effects (Appends a) (CancelsAll w) may = exchange-apart (Appends a) (CancelsAll w) may
exchange-effects (CancelsNext v) (Appends b) may = exchange-apart (CancelsNext v) (Appends b) may
exchange-effects (CancelsNext v) (CancelsNext w) may = either_vertex (λ w. Exchange (CancelsNext v) (CancelsNext w)) v w (λ p. refl) (λ apart. exchange-apart (CancelsNext v) (CancelsNext w) (differing v w apart))
exchange-effects (CancelsNext v) (CancelsEqual w ys) may = exchange-apart (CancelsNext v) (CancelsEqual w ys) may
exchange-effects (CancelsNext v) (CancelsAll w) may = either_vertex (λ w. Exchange (CancelsNext v) (CancelsAll w)) v w
    (on_both (CancelsNext v) (CancelsAll v) (λ l. sym (all-narrower (is_of v) (is_of v) (λ e h. h) l))) (λ apart. exchange-apart (CancelsNext v) (CancelsAll w) (differing v w apart))
exchange-effects (CancelsEqual v xs) (Appends b) may = exchange-apart (CancelsEqual v xs) (Appends b) may
exchange-effects (CancelsEqual v xs) (CancelsNext w) may = exchange-apart (CancelsEqual v xs) (CancelsNext w) may
exchange-effects (CancelsEqual v xs) (CancelsEqual w ys) may = either_vertex (λ w. Exchange (CancelsEqual v xs) (CancelsEqual w ys)) v w (equal-equal v xs ys) (λ apart. exchange-apart (CancelsEqual v xs) (CancelsEqual w ys) (differing v w apart))
exchange-effects (CancelsEqual v xs) (CancelsAll w) may = either_vertex (λ w. Exchange (CancelsEqual v xs) (CancelsAll w)) v w
    (on_both (CancelsEqual v xs) (CancelsAll v) (λ l. sym (all-narrower (is_of v) (is_event_with v xs) (with-is v xs) l))) (λ apart. exchange-apart (CancelsEqual v xs) (CancelsAll w) (differing v w apart))
exchange-effects (CancelsAll v) (Appends b) may = exchange-apart (CancelsAll v) (Appends b) may
exchange-effects (CancelsAll v) (CancelsNext w) may = either_vertex (λ w. Exchange (CancelsAll v) (CancelsNext w)) v w
    (on_both (CancelsAll v) (CancelsNext v) (all-narrower (is_of v) (is_of v) (λ e h. h))) (λ apart. exchange-apart (CancelsAll v) (CancelsNext w) (differing v w apart))
exchange-effects (CancelsAll v) (CancelsEqual w ys) may = either_vertex (λ w. Exchange (CancelsAll v) (CancelsEqual w ys)) v w
    (on_both (CancelsAll v) (CancelsEqual v ys) (all-narrower (is_of v) (is_event_with v ys) (with-is v ys))) (λ apart. exchange-apart (CancelsAll v) (CancelsEqual w ys) (differing v w apart))
exchange-effects (CancelsAll v) (CancelsAll w) may = on_both (CancelsAll v) (CancelsAll w) (all-all (is_of v) (is_of w))
