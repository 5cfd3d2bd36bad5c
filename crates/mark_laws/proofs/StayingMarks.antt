-- Lists of the places that go, and the marks of those that stay.
use Rattle.std.proofs.Common.{◌≡◌, ◌⊎◌, inl, inr, ℕ, zero, suc, ◌+◌, ◌<◌, ◌==◌, nat_eq, Bool, true, false, not, ◌&&◌, cond, List, [], ◌∷◌, length, None, refl, sym, ap, ap₂, subst, arith, ◌∙◌}
use Rattle.std.specs.Prelude.{filter}
use Rattle.std.specs.List.{range_with_len, list_any}
use lib.Pointwise.{pointwise}
use Rattle.std.proofs.lemmas.List.FromFn.{length-map-range_with_len}
use Rattle.std.proofs.lemmas.Bool.{not-true, cases_Bool, eqb-true}
use Rattle.sig_base.proofs.Tests.{not_both}
use Rattle.model_core.specs.Rules.Conditions.{first_failed}
use Rattle.model_core.specs.Rules.MarkedPlaces.{is_marked, unmarked_places}
use Rattle.model_core.specs.Rules.Drop.{is_nonempty_list, lists_exactly, staying_marks}
use Rattle.mark_laws.proofs.Marks.{Marked}
use Rattle.model_core.proofs.Among.{Among, any-among, among-any, among-filter}
use Rattle.mark_laws.proofs.MarksBelow.{marked-within, equal-by_places, tested-marked, marked-tested}
use Rattle.model_core.proofs.PlacesChanged.{same_number}

among-range : (a n k : ℕ) → k < n → Among (a + k) (range_with_len a n)
among-range a zero k below = absurd (omega arith)
among-range a (suc n) zero below = inl (omega arith)
among-range a (suc n) (suc k) below = inr (subst (λ j. Among j (range_with_len (a + 1) n)) (let e : a + 1 + k ≡ a + suc k = omega arith in e) (among-range (a + 1) n k (omega arith)))

among-all : (n k : ℕ) → k < n → Among k (range_with_len 0 n)
among-all n k below = subst (λ j. Among j (range_with_len 0 n)) (let e : 0 + k ≡ k = omega arith in e) (among-range 0 n k below)

filter-passes : {A : Type 0} (test : A → Bool) (xs : List A) (x : A) → Among x (filter test xs) → test x ≡ true
filter-passes test [] x h = absurd h
filter-passes {A} test (y ∷ ys) x h = tested (test y) refl h (filter-passes test ys x) where
  tested : (b : Bool) → test y ≡ b → Among x (cond b (y ∷ filter test ys) (filter test ys)) → (Among x (filter test ys) → test x ≡ true) → test x ≡ true
  tested true is (inl e) go = ap test (sym e) ∙ is
  tested true is (inr there) go = go there
  tested false is there go = go there

-- where the unmarked places go, the marks stay
pub staying-unmarked : (marks : List Bool) → staying_marks (unmarked_places marks) (length marks) ≡ marks
staying-unmarked marks = equal-by_places (staying_marks (unmarked_places marks) (length marks)) marks (length-map-range_with_len stays 0 (length marks)) to from where
  goes : ℕ → Bool
  goes k = list_any (λ v. v == k) (unmarked_places marks)

  stays : ℕ → Bool
  stays k = not (goes k)

  to : (k : ℕ) → Marked (staying_marks (unmarked_places marks) (length marks)) k → Marked marks k
  to k marked = by (cases_Bool (is_marked marks k)) where
    long : length (staying_marks (unmarked_places marks) (length marks)) ≡ length marks
    long = length-map-range_with_len stays 0 (length marks)

    below : k < length marks
    below = omega (arith, marked-within (staying_marks (unmarked_places marks) (length marks)) k marked, long)

    by : (is_marked marks k ≡ true) ⊎ (is_marked marks k ≡ false) → Marked marks k
    by (inl marked) = marked
    by (inr unmarked) =
        let there : Among k (unmarked_places marks) = among-filter (λ k. not (is_marked marks k)) (range_with_len 0 (length marks)) k (among-all (length marks) k below) (ap not unmarked) in
        absurd (not_both (goes k) (among-any (λ v. v == k) (unmarked_places marks) k there (same_number k k refl)) (not-true (goes k) (marked-tested stays (length marks) k marked)))

  from : (k : ℕ) → Marked marks k → Marked (staying_marks (unmarked_places marks) (length marks)) k
  from k marked = by (cases_Bool (goes k)) where
    by : (goes k ≡ true) ⊎ (goes k ≡ false) → Marked (staying_marks (unmarked_places marks) (length marks)) k
    by (inl gone) =
        let (v, there, is) = any-among (λ v. v == k) (unmarked_places marks) gone in
        let unmarked = filter-passes (λ k. not (is_marked marks k)) (range_with_len 0 (length marks)) v there in
        absurd (not_both (is_marked marks k) marked (not-true (is_marked marks k) (ap (λ j. not (is_marked marks j)) (sym (eqb-true v k is)) ∙ unmarked)))
    by (inr stay) = tested-marked stays (length marks) k (marked-within marks k marked) (ap not stay)

-- ---- equal lists of places

pub exactly-equal : (a b : List ℕ) → lists_exactly a b ≡ true → a ≡ b
exactly-equal [] [] e = refl
exactly-equal [] (y ∷ b) e = cc
exactly-equal (x ∷ a) [] e = cc
exactly-equal (x ∷ a) (y ∷ b) e = by (nat_eq x y) refl e (exactly-equal a b) where
  by : (t : Bool) → nat_eq x y ≡ t → (t && pointwise nat_eq a b) ≡ true → (pointwise nat_eq a b ≡ true → a ≡ b) → x ∷ a ≡ y ∷ b
  by true same rest go = ap₂ (λ k ks. k ∷ ks) (eqb-true x y same) (go rest)
  by false same rest go = cc

-- ---- the two conditions of a rule that takes a list away

pub some_given : (places : List ℕ) → (length places ≡ 0 → ⊥) → is_nonempty_list places ≡ true
some_given [] some = absurd (some refl)
some_given (k ∷ ks) some = refl

pub none_unequal : (b : Bool) → false ≡ not b → b ≡ true
none_unequal true e = refl
none_unequal false e = cc

pub both_conditions : (places others : List ℕ) → is_nonempty_list places ≡ true → lists_exactly places others ≡ true → first_failed (is_nonempty_list places ∷ lists_exactly places others ∷ []) ≡ None
both_conditions places others some exactly = ap₂ (λ a b. first_failed (a ∷ b ∷ [])) some exactly
