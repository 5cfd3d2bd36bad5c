-- Taking all entries away that pass a test, before and after sorting.
use Rattle.std.proofs.Common.{◌≡◌, Bool, true, false, not, cond, List, [], ◌∷◌, refl, sym, ap, ◌∙◌}
use Rattle.model_core.specs.Run.Pending.{Entry, sooner, without_all}
use Rattle.run_laws.proofs.MappedPending.{without_all-every}
use Rattle.order_laws.proofs.DueSorted.{put_in, sorted, NoneSooner, IsSorted, none_sooner-trans, put_in-front, sorted-IsSorted}

-- an entry that is put in, and then taken away or not
put-one : (test : Entry → Bool) (e x : Entry) (xs : List Entry) (b c d : Bool) → sooner x e ≡ b → test x ≡ c → test e ≡ d → NoneSooner x xs → without_all test (put_in e xs) ≡ cond (not d) (put_in e (without_all test xs)) (without_all test xs)
    → without_all test (cond b (x ∷ put_in e xs) (e ∷ x ∷ xs)) ≡ cond (not d) (put_in e (cond (not c) (x ∷ without_all test xs) (without_all test xs))) (cond (not c) (x ∷ without_all test xs) (without_all test xs))
put-one test e x xs true true d hb hc hd all later = simp hc later
put-one test e x xs true false true hb hc hd all later = simp hc (ap (λ l. x ∷ l) later)
put-one test e x xs true false false hb hc hd all later = simp (hb, hc) (ap (λ l. x ∷ l) later)
put-one test e x xs false true true hb hc hd all later = simp (hc, hd)
put-one test e x xs false true false hb hc hd all later =
    simp (hc, hd) (sym (put_in-front e (without_all test xs) (without_all-every (λ y. sooner y e ≡ false) test xs (none_sooner-trans e x xs hb all))))
put-one test e x xs false false true hb hc hd all later = simp (hc, hd)
put-one test e x xs false false false hb hc hd all later = simp (hb, hc, hd)

without_all-put : (test : Entry → Bool) (e : Entry) (xs : List Entry) → IsSorted xs → without_all test (put_in e xs) ≡ cond (not (test e)) (put_in e (without_all test xs)) (without_all test xs)
without_all-put test e [] s = refl
without_all-put test e (x ∷ xs) (all, s) = put-one test e x xs (sooner x e) (test x) (test e) refl refl refl all (without_all-put test e xs s)

pub sorted-without_all : (test : Entry → Bool) (p : List Entry) → sorted (without_all test p) ≡ without_all test (sorted p)
sorted-without_all test [] = refl
sorted-without_all test (e ∷ p) = chosen (not (test e)) (sorted-without_all test p) ∙ sym (without_all-put test e (sorted p) (sorted-IsSorted p)) where
  chosen : (b : Bool) → sorted (without_all test p) ≡ without_all test (sorted p) → sorted (cond b (e ∷ without_all test p) (without_all test p)) ≡ cond b (put_in e (without_all test (sorted p))) (without_all test (sorted p))
  chosen true later = ap (put_in e) later
  chosen false later = later
