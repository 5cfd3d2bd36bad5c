-- Taking off the next entry that passes a test is taking off the first one that does, once they are sorted.
use Rattle.std.proofs.Common.{◌≡◌, Bool, true, false, cond, List, [], ◌∷◌, Option, Some, None, option_map, unwrap_or, refl, sym, ap, ◌∙◌, subst}
use Rattle.std.specs.List.{AllByRecursion}
use Rattle.model_core.specs.Run.Pending.{Entry, EntryAndRest, sooner, staying, next_or_first, next_among, without_next}
use Rattle.order_laws.proofs.DueSorted.{put_in, sorted, NoneSooner, IsSorted, none_sooner-trans, put_in-front, sorted-IsSorted}

-- the first that passes the test, and the list without it
abbrev pub first_off : (Entry → Bool) → List Entry → Option EntryAndRest
first_off test [] = None
first_off test (x ∷ xs) = cond (test x) (Some (record { entry = x; others = xs })) (option_map (staying x) (first_off test xs))

-- e is put in among the others
abbrev putting : Entry → EntryAndRest → EntryAndRest
putting e n = record n { others = put_in e n.others }

-- the first of e and the others xs, where this is the first of the others
abbrev or_among : Entry → List Entry → Option EntryAndRest → Option EntryAndRest
or_among e xs None = Some (record { entry = e; others = xs })
or_among e xs (Some n) = cond (sooner n.entry e) (Some (putting e n)) (Some (record { entry = e; others = xs }))

first_off-every : (P : Entry → Type 0) (test : Entry → Bool) (xs : List Entry) → AllByRecursion P xs → (n : EntryAndRest) → first_off test xs ≡ Some n → P n.entry × AllByRecursion P n.others
first_off-every P test [] all n e = cc
first_off-every P test (x ∷ xs) (here, all) n e = chosen (test x) (first_off test xs) (first_off-every P test xs all) e where
  chosen : (b : Bool) (o : Option EntryAndRest) → ((n : EntryAndRest) → o ≡ Some n → P n.entry × AllByRecursion P n.others) → cond b (Some (record { entry = x; others = xs })) (option_map (staying x) o) ≡ Some n → P n.entry × AllByRecursion P n.others
  chosen true o later e =
      let same : record { entry = x; others = xs } ≡ n = cc in subst (λ (n : EntryAndRest). P n.entry × AllByRecursion P n.others) same (here, all)
  chosen false None later e = cc
  chosen false (Some k) later e =
      let (p, rest) = later k refl in
      let same : staying x k ≡ n = cc in subst (λ (n : EntryAndRest). P n.entry × AllByRecursion P n.others) same (p, (here, rest))

-- x goes first, and doesn't pass the test
after-one : (e x : Entry) (xs : List Entry) (d : Bool) (o : Option EntryAndRest) → sooner x e ≡ true → option_map (staying x) (cond d (or_among e xs o) (option_map (putting e) o)) ≡ cond d (or_among e (x ∷ xs) (option_map (staying x) o)) (option_map (putting e) (option_map (staying x) o))
after-one e x xs true None h = refl
after-one e x xs false None h = refl
after-one e x xs true (Some n) h = chosen (sooner n.entry e) where
  chosen : (b : Bool) → option_map (staying x) (cond b (Some (putting e n)) (Some (record { entry = e; others = xs }))) ≡ cond b (Some (putting e (staying x n))) (Some (record { entry = e; others = x ∷ xs }))
  chosen true = simp h
  chosen false = refl
after-one e x xs false (Some n) h = simp h

-- e goes first
before-all : (e : Entry) (xs : List Entry) (d : Bool) (o : Option EntryAndRest) → ((n : EntryAndRest) → o ≡ Some n → (sooner n.entry e ≡ false) × NoneSooner e n.others) → cond d (Some (record { entry = e; others = xs })) (option_map (staying e) o) ≡ cond d (or_among e xs o) (option_map (putting e) o)
before-all e xs true None late = refl
before-all e xs false None late = refl
before-all e xs true (Some n) late = let h = (late n refl).0 in simp h
before-all e xs false (Some n) late = ap (λ (l : List Entry). Some (record n { others = l })) (sym (put_in-front e n.others (late n refl).1))

either_same : {A : Type 0} (b : Bool) (a : A) → a ≡ cond b a a
either_same true a = refl
either_same false a = refl

first_off-put : (test : Entry → Bool) (e : Entry) (xs : List Entry) → IsSorted xs → first_off test (put_in e xs) ≡ cond (test e) (or_among e xs (first_off test xs)) (option_map (putting e) (first_off test xs))
first_off-put test e [] s = refl
first_off-put test e (x ∷ xs) (all, s) = chosen (sooner x e) (test x) refl refl (first_off-put test e xs s) where
  chosen : (b c : Bool) → sooner x e ≡ b → test x ≡ c → first_off test (put_in e xs) ≡ cond (test e) (or_among e xs (first_off test xs)) (option_map (putting e) (first_off test xs))
      → first_off test (cond b (x ∷ put_in e xs) (e ∷ x ∷ xs)) ≡ cond (test e) (or_among e (x ∷ xs) (first_off test (x ∷ xs))) (option_map (putting e) (first_off test (x ∷ xs)))
  chosen true true hb hc later = simp (hc, hb) (either_same (test e) (Some (record { entry = x; others = put_in e xs })))
  chosen true false hb hc later = simp hc (ap (option_map (staying x)) later ∙ after-one e x xs (test e) (first_off test xs) hb)
  chosen false c hb hc later = before-all e (x ∷ xs) (test e) (first_off test (x ∷ xs)) (first_off-every (λ y. sooner y e ≡ false) test (x ∷ xs) (hb, none_sooner-trans e x xs hb all))

-- ---- what is taken off before sorting

abbrev pub others_sorted : EntryAndRest → EntryAndRest
others_sorted n = record n { others = sorted n.others }

sorted-one : (e : Entry) (es : List Entry) (d : Bool) (o : Option EntryAndRest) → option_map others_sorted (cond d (next_or_first e es o) (option_map (staying e) o)) ≡ cond d (or_among e (sorted es) (option_map others_sorted o)) (option_map (putting e) (option_map others_sorted o))
sorted-one e es true None = refl
sorted-one e es false None = refl
sorted-one e es true (Some n) = chosen (sooner n.entry e) where
  chosen : (b : Bool) → Some (others_sorted (cond b (staying e n) (record { entry = e; others = es }))) ≡ cond b (Some (putting e (others_sorted n))) (Some (record { entry = e; others = sorted es }))
  chosen true = refl
  chosen false = refl
sorted-one e es false (Some n) = refl

pub sorted-next : (test : Entry → Bool) (p : List Entry) → option_map others_sorted (next_among test p) ≡ first_off test (sorted p)
sorted-next test [] = refl
sorted-next test (e ∷ p) =
    sorted-one e p (test e) (next_among test p)
    ∙ ap (λ (o : Option EntryAndRest). cond (test e) (or_among e (sorted p) o) (option_map (putting e) o)) (sorted-next test p)
    ∙ sym (first_off-put test e (sorted p) (sorted-IsSorted p))

-- the list without the first that passes the test
abbrev pub without_first : (Entry → Bool) → List Entry → List Entry
without_first test xs = unwrap_or (option_map (λ n. n.others) (first_off test xs)) xs

pub sorted-without_next : (test : Entry → Bool) (p : List Entry) → sorted (without_next test p) ≡ without_first test (sorted p)
sorted-without_next test p = left (next_among test p) ∙ ap (λ (o : Option EntryAndRest). unwrap_or (option_map (λ n. n.others) o) (sorted p)) (sorted-next test p) where
  left : (o : Option EntryAndRest) → sorted (unwrap_or (option_map (λ n. n.others) o) p) ≡ unwrap_or (option_map (λ n. n.others) (option_map others_sorted o)) (sorted p)
  left None = refl
  left (Some n) = refl
