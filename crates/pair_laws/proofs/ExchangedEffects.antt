-- Neighbouring effects that may change: the events that are then pending are next in the same order.
use Rattle.std.proofs.Common.{◌≡◌, ℕ, ℤ, Bool, true, false, not, cond, ◌&&◌, ◌==◌, eqb, List, [], ◌∷◌, refl, sym, ap, ◌∙◌, arith}
use Rattle.std.proofs.lemmas.Bool.Decides.{nat_tests}
use Rattle.model_core.specs.Run.Pending.{Entry, sooner, same_values, is_of, is_event_with, without_all}
use Rattle.pair_laws.specs.Effects.{Effect, Appends, CancelsNext, CancelsEqual, CancelsAll, after_effect}
use Rattle.pair_laws.specs.Exchanges.{due_alike}
use Rattle.order_laws.proofs.Sooner.{sooner-trans, sooner-asym}
use Rattle.order_laws.proofs.DueSorted.{sorted, put_after}
use Rattle.order_laws.proofs.SortedTakenOff.{without_first}
use Rattle.pair_laws.proofs.EffectsInDueOrder.{on_sorted, sorted-effect}
use Rattle.pair_laws.proofs.TakenAway.{Excluding, first_gone, without_first-gone, first-first, all-first, all-all, next_gone-behind, all_gone-behind}

-- ---- two entries that aren't due alike

pub sooner-apart : (a b : Entry) → due_alike a b ≡ false → sooner a b ≡ false → sooner b a ≡ true
sooner-apart a b e h = grind (arith, nat_tests)

-- a is due before b
puts : (a b : Entry) → sooner a b ≡ true → (l : List Entry) → put_after a (put_after b l) ≡ put_after b (put_after a l)
puts a b h [] = simp (h, sooner-asym a b h) refl
puts a b h (x ∷ xs) = chosen (sooner a x) (sooner b x) refl refl (puts a b h xs) where
  chosen : (c d : Bool) → sooner a x ≡ c → sooner b x ≡ d → put_after a (put_after b xs) ≡ put_after b (put_after a xs) → put_after a (cond d (b ∷ x ∷ xs) (x ∷ put_after b xs)) ≡ put_after b (cond c (a ∷ x ∷ xs) (x ∷ put_after a xs))
  chosen true true hc hd later = simp (h, sooner-asym a b h, hd) refl
  chosen true false hc hd later = simp (hc, sooner-asym a b h, hd) refl
  chosen false true hc hd later = let no = sooner-trans a b x h hd in cc
  chosen false false hc hd later = simp (hc, hd) (ap (λ l. x ∷ l) later)

put-put : (a b : Entry) → due_alike a b ≡ false → (l : List Entry) → put_after b (put_after a l) ≡ put_after a (put_after b l)
put-put a b apart l = chosen (sooner a b) refl where
  chosen : (c : Bool) → sooner a b ≡ c → put_after b (put_after a l) ≡ put_after a (put_after b l)
  chosen true h = sym (puts a b h l)
  chosen false h = puts b a (sooner-apart a b apart h) l

-- ---- tests of different vertices

of-other : (v w : ℕ) → eqb v w ≡ false → (e : Entry) → is_of v e ≡ true → is_of w e ≡ false
of-other v w apart e h = grind (arith, nat_tests)

with-other : (v w : ℕ) (values : List ℤ) → eqb v w ≡ false → (e : Entry) → is_of v e ≡ true → is_event_with w values e ≡ false
with-other v w values apart e h = let other = of-other v w apart e h in simp other refl

pub with-is : (v : ℕ) (values : List ℤ) (e : Entry) → is_event_with v values e ≡ true → is_of v e ≡ true
with-is v values e h = chosen (is_of v e) (same_values e.values values) h where
  chosen : (b c : Bool) → (b && c) ≡ true → b ≡ true
  chosen true c h = refl
  chosen false c h = h

-- ---- all forms

-- the effects in both orders
abbrev pub Exchange : Effect → Effect → Type 0
Exchange f h = (p : List Entry) → sorted (after_effect h (after_effect f p)) ≡ sorted (after_effect f (after_effect h p))

-- both on the sorted list
pub on_both : (f h : Effect) → ((l : List Entry) → on_sorted h (on_sorted f l) ≡ on_sorted f (on_sorted h l)) → Exchange f h
on_both f h same p = sorted-effect h (after_effect f p) ∙ ap (on_sorted h) (sorted-effect f p) ∙ same (sorted p) ∙ sym (ap (on_sorted f) (sorted-effect h p)) ∙ sym (sorted-effect f (after_effect h p))

pub gone-gone : (t u : Entry → Bool) → Excluding t u → (l : List Entry) → without_first u (without_first t l) ≡ without_first t (without_first u l)
gone-gone t u excl l =
    without_first-gone u (without_first t l) ∙ ap (first_gone u) (without_first-gone t l) ∙ first-first t u excl l
    ∙ sym (ap (first_gone t) (without_first-gone u l)) ∙ sym (without_first-gone t (without_first u l))

gone-all : (t u : Entry → Bool) → Excluding t u → (l : List Entry) → without_first u (without_all t l) ≡ without_all t (without_first u l)
gone-all t u excl l = without_first-gone u (without_all t l) ∙ all-first t u excl l ∙ sym (ap (without_all t) (without_first-gone u l))

eqb-turned : (v w : ℕ) → eqb v w ≡ false → eqb w v ≡ false
eqb-turned v w h = grind (arith, nat_tests)

-- a vertex taken away beside an entry of another
is-other : (e : Entry) (v : ℕ) → eqb e.vertex v ≡ false → is_of v e ≡ false
is-other e v h = h

with-values-other : (e : Entry) (v : ℕ) (values : List ℤ) → eqb e.vertex v ≡ false → is_event_with v values e ≡ false
with-values-other e v values h = simp h refl

differ : (c : Bool) → not c ≡ true → c ≡ false
differ true h = sym h
differ false h = refl

-- what two vertices' tests take away
no_both : (v w : ℕ) → eqb v w ≡ false → Excluding (is_of v) (is_of w)
no_both v w apart e h = of-other v w apart e h

no_with : (v w : ℕ) (ys : List ℤ) → eqb v w ≡ false → Excluding (is_of v) (is_event_with w ys)
no_with v w ys apart e h = with-other v w ys apart e h

with_no : (v w : ℕ) (xs : List ℤ) → eqb v w ≡ false → Excluding (is_event_with v xs) (is_of w)
with_no v w xs apart e h = of-other v w apart e (with-is v xs e h)

with_with : (v w : ℕ) (xs ys : List ℤ) → eqb v w ≡ false → Excluding (is_event_with v xs) (is_event_with w ys)
with_with v w xs ys apart e h = with-other v w ys apart e (with-is v xs e h)

-- the vertex to which an effect leads
abbrev pub target_of : Effect → ℕ
target_of (Appends e) = e.vertex
target_of (CancelsNext vertex) = vertex
target_of (CancelsEqual vertex values) = vertex
target_of (CancelsAll vertex) = vertex

-- two entries that aren't due alike, or effects of which at least one cancels, with different targets
abbrev pub are_apart : Effect → Effect → Bool
are_apart (Appends a) (Appends b) = not (due_alike a b)
are_apart f h = not (target_of f == target_of h)

pub exchange-apart : (f h : Effect) → are_apart f h ≡ true → Exchange f h
exchange-apart (Appends a) (Appends b) may = on_both (Appends a) (Appends b) (put-put a b (differ (due_alike a b) may))
exchange-apart (Appends a) (CancelsNext w) may = λ p. ap sorted (next_gone-behind (is_of w) a (differ (eqb a.vertex w) may) p)
exchange-apart (Appends a) (CancelsEqual w ys) may = λ p. ap sorted (next_gone-behind (is_event_with w ys) a (with-values-other a w ys (differ (eqb a.vertex w) may)) p)
exchange-apart (Appends a) (CancelsAll w) may = λ p. ap sorted (all_gone-behind (is_of w) a (differ (eqb a.vertex w) may) p)
exchange-apart (CancelsNext v) (Appends b) may = λ p. sym (ap sorted (next_gone-behind (is_of v) b (eqb-turned v b.vertex (differ (eqb v b.vertex) may)) p))
exchange-apart (CancelsNext v) (CancelsNext w) may = on_both (CancelsNext v) (CancelsNext w) (gone-gone (is_of v) (is_of w) (no_both v w (differ (eqb v w) may)))
exchange-apart (CancelsNext v) (CancelsEqual w ys) may = on_both (CancelsNext v) (CancelsEqual w ys) (gone-gone (is_of v) (is_event_with w ys) (no_with v w ys (differ (eqb v w) may)))
exchange-apart (CancelsNext v) (CancelsAll w) may = on_both (CancelsNext v) (CancelsAll w) (λ l. sym (gone-all (is_of w) (is_of v) (no_both w v (eqb-turned v w (differ (eqb v w) may))) l))
exchange-apart (CancelsEqual v xs) (Appends b) may = λ p. sym (ap sorted (next_gone-behind (is_event_with v xs) b (with-values-other b v xs (eqb-turned v b.vertex (differ (eqb v b.vertex) may))) p))
exchange-apart (CancelsEqual v xs) (CancelsNext w) may = on_both (CancelsEqual v xs) (CancelsNext w) (gone-gone (is_event_with v xs) (is_of w) (with_no v w xs (differ (eqb v w) may)))
exchange-apart (CancelsEqual v xs) (CancelsEqual w ys) may = on_both (CancelsEqual v xs) (CancelsEqual w ys) (gone-gone (is_event_with v xs) (is_event_with w ys) (with_with v w xs ys (differ (eqb v w) may)))
exchange-apart (CancelsEqual v xs) (CancelsAll w) may = on_both (CancelsEqual v xs) (CancelsAll w) (λ l. sym (gone-all (is_of w) (is_event_with v xs) (no_with w v xs (eqb-turned v w (differ (eqb v w) may))) l))
exchange-apart (CancelsAll v) (Appends b) may = λ p. sym (ap sorted (all_gone-behind (is_of v) b (eqb-turned v b.vertex (differ (eqb v b.vertex) may)) p))
exchange-apart (CancelsAll v) (CancelsNext w) may = on_both (CancelsAll v) (CancelsNext w) (gone-all (is_of v) (is_of w) (no_both v w (differ (eqb v w) may)))
exchange-apart (CancelsAll v) (CancelsEqual w ys) may = on_both (CancelsAll v) (CancelsEqual w ys) (gone-all (is_of v) (is_event_with w ys) (no_with v w ys (differ (eqb v w) may)))
exchange-apart (CancelsAll v) (CancelsAll w) may = on_both (CancelsAll v) (CancelsAll w) (all-all (is_of v) (is_of w))
