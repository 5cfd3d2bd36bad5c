-- A pending list with one more event put in, after so many events of its vertex: it stays so if no event of the vertex is
-- cancelled, and its place is found again.
use Rattle.std.proofs.Common.{◌≡◌, ℕ, zero, suc, ◌+◌, Bool, true, false, not, cond, List, [], ◌∷◌, ◌++◌, Option, Some, None, option_map, unwrap_or, slice_get, take, refl, sym, ap, subst, arith}
use Rattle.std.specs.List.{AllByRecursion, remove}
use Rattle.std.proofs.lemmas.List.Sums.{sum_by-cons}
use Rattle.model_core.specs.Run.Pending.{Entry, EntryAndRest, sooner, staying, next_or_first, next_among, is_of, is_event_with, without_next, without_all}
use Rattle.model_core.specs.Conflicts.Perform.{events_ahead, place_with_ahead}
use Rattle.conflict_report.proofs.OtherVertices.{other-vertex, other-with_values}
use Rattle.conflict_report.proofs.ListEdits.{ListEdit, AddsEvent, CutsNext, CutsEqual, CutsAll, CutsOthers, after_edit, after_edits}

module _ (b : Entry) (vertex : ℕ) where
  -- the second list is the first one with b put in after so many events of the vertex
  pub data PutIn : ℕ → List Entry → List Entry → Type 0 where
    put_first : (xs : List Entry) → PutIn zero xs (b ∷ xs)
    after_own : (x : Entry) → is_of vertex x ≡ true → {n : ℕ} {xs ys : List Entry} → PutIn n xs ys → PutIn (suc n) (x ∷ xs) (x ∷ ys)
    after_other : (x : Entry) → is_of vertex x ≡ false → {n : ℕ} {xs ys : List Entry} → PutIn n xs ys → PutIn n (x ∷ xs) (x ∷ ys)

  -- ---- places

  put_after : (x : Entry) (n : ℕ) (xs ys : List Entry) → PutIn n xs ys → PutIn (cond (is_of vertex x) 1 0 + n) (x ∷ xs) (x ∷ ys)
  put_after x n xs ys p = by (is_of vertex x) refl where
    by : (c : Bool) → is_of vertex x ≡ c → PutIn (cond c 1 0 + n) (x ∷ xs) (x ∷ ys)
    by true own = subst (λ m. PutIn m (x ∷ xs) (x ∷ ys)) (omega arith) (after_own x own p)
    by false own = subst (λ m. PutIn m (x ∷ xs) (x ∷ ys)) (omega arith) (after_other x own p)

  put_in-of_place : (ys : List Entry) (k : ℕ) → slice_get ys k ≡ Some b → PutIn (events_ahead vertex ys k) (remove ys k) ys
  put_in-of_place [] k e = cc
  put_in-of_place (y ∷ ys) zero e = let same : b ≡ y = cc in subst (λ y. PutIn zero ys (y ∷ ys)) same (put_first ys)
  put_in-of_place (y ∷ ys) (suc k) e =
      subst (λ n. PutIn n (y ∷ remove ys k) (y ∷ ys)) (sym (sum_by-cons (λ x. cond (is_of vertex x) 1 0) y (take k ys))) (put_after y (events_ahead vertex ys k) (remove ys k) ys (put_in-of_place ys k e))

  -- the event's place, and the list without it
  pub record PendingAt (xs ys : List Entry) (k : ℕ) : Type 0 where
    pub there : slice_get ys k ≡ Some b
    pub others : remove ys k ≡ xs

  pending-after : (x : Entry) (xs ys : List Entry) (k : ℕ) → PendingAt xs ys k → PendingAt (x ∷ xs) (x ∷ ys) (suc k)
  pending-after x xs ys k f = record { there = f.there; others = ap (λ zs. x ∷ zs) f.others }

  place-pending : is_of vertex b ≡ true → (n : ℕ) (xs ys : List Entry) → PutIn n xs ys → PendingAt xs ys (place_with_ahead vertex n ys)
  place-pending own n xs ys (put_first zs) =
      subst (λ (c : Bool). PendingAt zs (b ∷ zs) (cond c 0 (suc (place_with_ahead vertex zero zs)))) (sym own) (record { there = refl; others = refl })
  place-pending own n xs ys (after_own x is {n = m} {xs = ps} {ys = qs} p) =
      subst (λ (c : Bool). PendingAt (x ∷ ps) (x ∷ qs) (suc (place_with_ahead vertex (cond c m (suc m)) qs))) (sym is) (pending-after x ps qs (place_with_ahead vertex m qs) (place-pending own m ps qs p))
  place-pending own zero xs ys (after_other x is {n = m} {xs = ps} {ys = qs} p) =
      subst (λ (c : Bool). PendingAt (x ∷ ps) (x ∷ qs) (cond c 0 (suc (place_with_ahead vertex zero qs)))) (sym is) (pending-after x ps qs (place_with_ahead vertex zero qs) (place-pending own zero ps qs p))
  place-pending own (suc n) xs ys (after_other x is {n = m} {xs = ps} {ys = qs} p) =
      subst (λ (c : Bool). PendingAt (x ∷ ps) (x ∷ qs) (suc (place_with_ahead vertex (cond c n (suc n)) qs))) (sym is) (pending-after x ps qs (place_with_ahead vertex (suc n) qs) (place-pending own (suc n) ps qs p))

  -- ---- deeds

  put_in-append : {n : ℕ} {xs ys : List Entry} → PutIn n xs ys → (zs : List Entry) → PutIn n (xs ++ zs) (ys ++ zs)
  put_in-append (put_first xs) zs = put_first (xs ++ zs)
  put_in-append (after_own x is p) zs = after_own x is (put_in-append p zs)
  put_in-append (after_other x is p) zs = after_other x is (put_in-append p zs)

  -- a test that no event of the vertex passes
  abbrev pub PassesOthers : (Entry → Bool) → Type 0
  PassesOthers test = (e : Entry) → is_of vertex e ≡ true → test e ≡ false

  -- what a test takes off both lists
  abbrev TakenAlike : ℕ → Option EntryAndRest → Option EntryAndRest → Type 0
  TakenAlike n None None = Unit {0}
  TakenAlike n None (Some q) = ⊥
  TakenAlike n (Some p) None = ⊥
  TakenAlike n (Some p) (Some q) = (p.entry ≡ q.entry) × PutIn n p.others q.others

  taken-front : (o : Option EntryAndRest) → TakenAlike zero o (option_map (staying b) o)
  taken-front None = tt
  taken-front (Some p) = (refl, put_first p.others)

  taken-own : (x : Entry) → is_of vertex x ≡ true → (n : ℕ) (o p : Option EntryAndRest) → TakenAlike n o p → TakenAlike (suc n) (option_map (staying x) o) (option_map (staying x) p)
  taken-own x is n None None same = tt
  taken-own x is n None (Some q) same = absurd same
  taken-own x is n (Some p) None same = absurd same
  taken-own x is n (Some p) (Some q) (same, put) = (same, after_own x is put)

  taken-chosen : (x : Entry) → is_of vertex x ≡ false → {n : ℕ} {xs ys : List Entry} → PutIn n xs ys → (p q : EntryAndRest) → PutIn n p.others q.others → p.entry ≡ q.entry → (c : Bool) → TakenAlike n (Some (cond c (staying x p) (record { entry = x; others = xs }))) (Some (cond c (staying x q) (record { entry = x; others = ys })))
  taken-chosen x is i p q j same true = (same, after_other x is j)
  taken-chosen x is i p q j same false = (refl, i)

  taken-other : (x : Entry) → is_of vertex x ≡ false → {n : ℕ} {xs ys : List Entry} → PutIn n xs ys → (c : Bool) (o p : Option EntryAndRest) → TakenAlike n o p → TakenAlike n (cond c (next_or_first x xs o) (option_map (staying x) o)) (cond c (next_or_first x ys p) (option_map (staying x) p))
  taken-other x is i true None None same = (refl, i)
  taken-other x is i false None None same = tt
  taken-other x is i c None (Some q) same = absurd same
  taken-other x is i c (Some p) None same = absurd same
  taken-other x is {n} {xs} {ys} i true (Some p) (Some q) (same, j) =
      subst (λ (e : Entry). TakenAlike n (Some (cond (sooner p.entry x) (staying x p) (record { entry = x; others = xs }))) (Some (cond (sooner e x) (staying x q) (record { entry = x; others = ys })))) same (taken-chosen x is i p q j same (sooner p.entry x))
  taken-other x is i false (Some p) (Some q) (same, j) = (same, after_other x is j)

  taken-left : {n : ℕ} {xs ys : List Entry} → PutIn n xs ys → (o p : Option EntryAndRest) → TakenAlike n o p → PutIn n (unwrap_or (option_map (λ n. n.others) o) xs) (unwrap_or (option_map (λ n. n.others) p) ys)
  taken-left i None None same = i
  taken-left i None (Some q) same = absurd same
  taken-left i (Some p) None same = absurd same
  taken-left i (Some p) (Some q) (same, j) = j

  module _ (b_own : is_of vertex b ≡ true) (test : Entry → Bool) (passes : PassesOthers test) where
    next_among-put_in : {n : ℕ} {xs ys : List Entry} → PutIn n xs ys → TakenAlike n (next_among test xs) (next_among test ys)
    next_among-put_in (put_first xs) =
        subst (λ (c : Bool). TakenAlike zero (next_among test xs) (cond c (next_or_first b xs (next_among test xs)) (option_map (staying b) (next_among test xs)))) (sym (passes b b_own)) (taken-front (next_among test xs))
    next_among-put_in (after_own x is {n = n} {xs = xs} {ys = ys} p) =
        subst (λ (c : Bool). TakenAlike (suc n) (cond c (next_or_first x xs (next_among test xs)) (option_map (staying x) (next_among test xs))) (cond c (next_or_first x ys (next_among test ys)) (option_map (staying x) (next_among test ys)))) (sym (passes x is)) (taken-own x is n (next_among test xs) (next_among test ys) (next_among-put_in p))
    next_among-put_in (after_other x is {n = n} {xs = xs} {ys = ys} p) =
        taken-other x is p (test x) (next_among test xs) (next_among test ys) (next_among-put_in p)

    without_next-put_in : {n : ℕ} {xs ys : List Entry} → PutIn n xs ys → PutIn n (without_next test xs) (without_next test ys)
    without_next-put_in {n} {xs} {ys} p = taken-left p (next_among test xs) (next_among test ys) (next_among-put_in p)

    kept-put_in : (x : Entry) → is_of vertex x ≡ false → {n : ℕ} {xs ys : List Entry} → PutIn n xs ys → (c : Bool) → PutIn n (cond c (x ∷ xs) xs) (cond c (x ∷ ys) ys)
    kept-put_in x is p true = after_other x is p
    kept-put_in x is p false = p

    without_all-put_in : {n : ℕ} {xs ys : List Entry} → PutIn n xs ys → PutIn n (without_all test xs) (without_all test ys)
    without_all-put_in (put_first xs) =
        subst (λ (c : Bool). PutIn zero (without_all test xs) (cond (not c) (b ∷ without_all test xs) (without_all test xs))) (sym (passes b b_own)) (put_first (without_all test xs))
    without_all-put_in (after_own x is {n = n} {xs = xs} {ys = ys} p) =
        subst (λ (c : Bool). PutIn (suc n) (cond (not c) (x ∷ without_all test xs) (without_all test xs)) (cond (not c) (x ∷ without_all test ys) (without_all test ys))) (sym (passes x is)) (after_own x is (without_all-put_in p))
    without_all-put_in (after_other x is p) = kept-put_in x is (without_all-put_in p) (not (test x))

  module _ (b_own : is_of vertex b ≡ true) where
    after_edit-put_in : (x : ListEdit) → CutsOthers vertex x → {n : ℕ} {xs ys : List Entry} → PutIn n xs ys → PutIn n (after_edit x xs) (after_edit x ys)
    after_edit-put_in (AddsEvent e) cuts p = put_in-append p (e ∷ [])
    after_edit-put_in (CutsNext v) cuts p = without_next-put_in b_own (is_of v) (λ e own. other-vertex vertex v e.vertex cuts own) p
    after_edit-put_in (CutsEqual v values) cuts p = without_next-put_in b_own (is_event_with v values) (λ e own. other-with_values v values e (other-vertex vertex v e.vertex cuts own)) p
    after_edit-put_in (CutsAll v) cuts p = without_all-put_in b_own (is_of v) (λ e own. other-vertex vertex v e.vertex cuts own) p

    after_edits-put_in : (deeds : List ListEdit) → AllByRecursion (CutsOthers vertex) deeds → {n : ℕ} {xs ys : List Entry} → PutIn n xs ys → PutIn n (after_edits deeds xs) (after_edits deeds ys)
    after_edits-put_in [] cuts p = p
    after_edits-put_in (x ∷ deeds) (now, cuts) p = after_edits-put_in deeds cuts (after_edit-put_in x now p)

  -- so the event is found again after the deeds
  pub pending-again : is_of vertex b ≡ true → (deeds : List ListEdit) → AllByRecursion (CutsOthers vertex) deeds → (ys : List Entry) (k : ℕ) → slice_get ys k ≡ Some b → PendingAt (after_edits deeds (remove ys k)) (after_edits deeds ys) (place_with_ahead vertex (events_ahead vertex ys k) (after_edits deeds ys))
  pending-again own deeds cuts ys k e = place-pending own (events_ahead vertex ys k) (after_edits deeds (remove ys k)) (after_edits deeds ys) (after_edits-put_in own deeds cuts (put_in-of_place ys k e))
