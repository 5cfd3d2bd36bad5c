-- Entries that pass different tests are taken away in any order, and beside an entry that is put in.
use Rattle.std.proofs.Common.{◌≡◌, Bool, true, false, not, cond, List, [], ◌∷◌, ◌++◌, Option, Some, None, option_map, unwrap_or, refl, ap, ◌∙◌}
use Rattle.model_core.specs.Run.Pending.{Entry, EntryAndRest, sooner, staying, next_or_first, next_among, without_next, without_all}
use Rattle.order_laws.proofs.SortedTakenOff.{first_off, without_first}

-- no entry passes both tests
abbrev pub Excluding : (Entry → Bool) → (Entry → Bool) → Type 0
Excluding test other = (e : Entry) → test e ≡ true → other e ≡ false

-- ---- the first that passes, by recursion

abbrev pub first_gone : (Entry → Bool) → List Entry → List Entry
first_gone test [] = []
first_gone test (x ∷ xs) = cond (test x) xs (x ∷ first_gone test xs)

pub without_first-gone : (test : Entry → Bool) (xs : List Entry) → without_first test xs ≡ first_gone test xs
without_first-gone test [] = refl
without_first-gone test (x ∷ xs) = chosen (test x) ∙ ap (λ l. cond (test x) xs (x ∷ l)) (without_first-gone test xs) where
  later : (o : Option EntryAndRest) → unwrap_or (option_map (λ n. n.others) (option_map (staying x) o)) (x ∷ xs) ≡ x ∷ unwrap_or (option_map (λ n. n.others) o) xs
  later None = refl
  later (Some n) = refl

  chosen : (b : Bool) → unwrap_or (option_map (λ n. n.others) (cond b (Some (record { entry = x; others = xs })) (option_map (staying x) (first_off test xs)))) (x ∷ xs) ≡ cond b xs (x ∷ without_first test xs)
  chosen true = refl
  chosen false = later (first_off test xs)

-- ---- two tests

pub first-first : (t u : Entry → Bool) → Excluding t u → (xs : List Entry) → first_gone u (first_gone t xs) ≡ first_gone t (first_gone u xs)
first-first t u excl [] = refl
first-first t u excl (x ∷ xs) = chosen (t x) (u x) refl refl (first-first t u excl xs) where
  chosen : (a b : Bool) → t x ≡ a → u x ≡ b → first_gone u (first_gone t xs) ≡ first_gone t (first_gone u xs) → first_gone u (cond a xs (x ∷ first_gone t xs)) ≡ first_gone t (cond b xs (x ∷ first_gone u xs))
  chosen true true ha hb later = let h = excl x ha in cc
  chosen true false ha hb later = simp ha refl
  chosen false true ha hb later = simp hb refl
  chosen false false ha hb later = simp (ha, hb) (ap (λ l. x ∷ l) later)

pub all-first : (t u : Entry → Bool) → Excluding t u → (xs : List Entry) → first_gone u (without_all t xs) ≡ without_all t (first_gone u xs)
all-first t u excl [] = refl
all-first t u excl (x ∷ xs) = chosen (t x) (u x) refl refl (all-first t u excl xs) where
  chosen : (a b : Bool) → t x ≡ a → u x ≡ b → first_gone u (without_all t xs) ≡ without_all t (first_gone u xs) → first_gone u (cond (not a) (x ∷ without_all t xs) (without_all t xs)) ≡ without_all t (cond b xs (x ∷ first_gone u xs))
  chosen true true ha hb later = let h = excl x ha in cc
  chosen true false ha hb later = simp ha later
  chosen false true ha hb later = simp hb refl
  chosen false false ha hb later = simp (ha, hb) (ap (λ l. x ∷ l) later)

pub all-all : (t u : Entry → Bool) (xs : List Entry) → without_all u (without_all t xs) ≡ without_all t (without_all u xs)
all-all t u [] = refl
all-all t u (x ∷ xs) = chosen (t x) (u x) refl refl (all-all t u xs) where
  chosen : (a b : Bool) → t x ≡ a → u x ≡ b → without_all u (without_all t xs) ≡ without_all t (without_all u xs) → without_all u (cond (not a) (x ∷ without_all t xs) (without_all t xs)) ≡ without_all t (cond (not b) (x ∷ without_all u xs) (without_all u xs))
  chosen true true ha hb later = later
  chosen true false ha hb later = simp ha later
  chosen false true ha hb later = simp hb later
  chosen false false ha hb later = simp (ha, hb) (ap (λ l. x ∷ l) later)

-- ---- a test, and an entry behind the others that doesn't pass it

abbrev behind : Entry → EntryAndRest → EntryAndRest
behind e n = record n { others = n.others ++ e ∷ [] }

next-behind : (test : Entry → Bool) (e : Entry) → test e ≡ false → (p : List Entry) → next_among test (p ++ e ∷ []) ≡ option_map (behind e) (next_among test p)
next-behind test e out [] = simp out refl
next-behind test e out (x ∷ p) =
    ap (λ (o : Option EntryAndRest). cond (test x) (next_or_first x (p ++ e ∷ []) o) (option_map (staying x) o)) (next-behind test e out p)
    ∙ chosen (test x) (next_among test p) where
      sooner_or_not : (b : Bool) (n : EntryAndRest) → Some (cond b (staying x (behind e n)) (record { entry = x; others = p ++ e ∷ [] })) ≡ option_map (behind e) (Some (cond b (staying x n) (record { entry = x; others = p })))
      sooner_or_not true n = refl
      sooner_or_not false n = refl

      chosen : (b : Bool) (o : Option EntryAndRest) → cond b (next_or_first x (p ++ e ∷ []) (option_map (behind e) o)) (option_map (staying x) (option_map (behind e) o)) ≡ option_map (behind e) (cond b (next_or_first x p o) (option_map (staying x) o))
      chosen true None = refl
      chosen true (Some n) = sooner_or_not (sooner n.entry x) n
      chosen false None = refl
      chosen false (Some n) = refl

pub next_gone-behind : (test : Entry → Bool) (e : Entry) → test e ≡ false → (p : List Entry) → without_next test (p ++ e ∷ []) ≡ without_next test p ++ e ∷ []
next_gone-behind test e out p = ap (λ (o : Option EntryAndRest). unwrap_or (option_map (λ n. n.others) o) (p ++ e ∷ [])) (next-behind test e out p) ∙ chosen (next_among test p) where
  chosen : (o : Option EntryAndRest) → unwrap_or (option_map (λ n. n.others) (option_map (behind e) o)) (p ++ e ∷ []) ≡ unwrap_or (option_map (λ n. n.others) o) p ++ e ∷ []
  chosen None = refl
  chosen (Some n) = refl

pub all_gone-behind : (test : Entry → Bool) (e : Entry) → test e ≡ false → (p : List Entry) → without_all test (p ++ e ∷ []) ≡ without_all test p ++ e ∷ []
all_gone-behind test e out [] = simp out refl
all_gone-behind test e out (x ∷ p) = ap (λ l. cond (not (test x)) (x ∷ l) l) (all_gone-behind test e out p) ∙ chosen (not (test x)) where
  chosen : (b : Bool) → cond b (x ∷ without_all test p ++ e ∷ []) (without_all test p ++ e ∷ []) ≡ cond b (x ∷ without_all test p) (without_all test p) ++ e ∷ []
  chosen true = refl
  chosen false = refl
