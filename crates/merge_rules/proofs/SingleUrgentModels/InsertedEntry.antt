-- A pending list with one more entry put in somewhere, which is due before all others.
use Rattle.std.proofs.Common.{◌≡◌, ℕ, Bool, true, false, not, cond, ◌&&◌, ◌||◌, ◌==◌, nat_lt, List, [], ◌∷◌, ◌++◌, Option, Some, None, option_map, refl, sym, ◌∙◌, ap, subst, arith, unwrap_or}
use Rattle.std.proofs.lemmas.Bool.Decides.{nat_tests}
use Rattle.model_core.specs.Run.Pending.{Entry, EntryAndRest, sooner, staying, next_or_first, next_among, next_entry, without_next, without_all}
use Rattle.std.specs.List.{AllByRecursion}
use Rattle.run_laws.proofs.MappedPending.{next_among-every}

-- the second list is the first one with b put in somewhere
pub data Inserted (b : Entry) : List Entry → List Entry → Type 0 where
  front : (xs : List Entry) → Inserted b xs (b ∷ xs)
  further : (x : Entry) {xs ys : List Entry} → Inserted b xs ys → Inserted b (x ∷ xs) (x ∷ ys)

pub inserted_last : (b : Entry) (xs : List Entry) → Inserted b xs (xs ++ b ∷ [])
inserted_last b [] = front []
inserted_last b (x ∷ xs) = further x (inserted_last b xs)

pub inserted-append : (b : Entry) {xs ys : List Entry} → Inserted b xs ys → (zs : List Entry) → Inserted b (xs ++ zs) (ys ++ zs)
inserted-append b (front xs) zs = front (xs ++ zs)
inserted-append b (further x i) zs = further x (inserted-append b i zs)

-- what holds of all in the second list holds of all in the first one
pub every-inserted : (P : Entry → Type 0) (b : Entry) {xs ys : List Entry} → Inserted b xs ys → AllByRecursion P ys → AllByRecursion P xs
every-inserted P b (front xs) (here, all) = all
every-inserted P b (further x i) (here, all) = (here, every-inserted P b i all)

abbrev pub DueBefore : Entry → Entry → Type 0
DueBefore b x = sooner b x ≡ true

sooner_not_both : (t p u q : ℕ) → (nat_lt t u || ((t == u) && nat_lt p q)) ≡ true → (nat_lt u t || ((u == t) && nat_lt q p)) ≡ false
sooner_not_both t p u q e = grind (arith, nat_tests)

first-later : (b : Entry) (xs : List Entry) (o : Option EntryAndRest) → ((n : EntryAndRest) → o ≡ Some n → sooner n.entry b ≡ false) → next_or_first b xs o ≡ Some (record { entry = b; others = xs })
first-later b xs None later = refl
first-later b xs (Some n) later = ap (λ c. Some (cond c (staying b n) (record { entry = b; others = xs }))) (later n refl)

-- it is the next one
pub next_entry-inserted : (b : Entry) {xs ys : List Entry} → Inserted b xs ys → AllByRecursion (DueBefore b) xs → next_entry ys ≡ Some (record { entry = b; others = xs })
next_entry-inserted b (front xs) all =
    first-later b xs (next_entry xs) (λ n e. sooner_not_both b.time b.priority n.entry.time n.entry.priority (next_among-every (DueBefore b) (λ e. true) xs all n e).0)
next_entry-inserted b (further x {xs = xs} {ys = ys} i) (due, all) =
    ap (next_or_first x ys) (next_entry-inserted b i all) ∙ ap (λ c. Some (cond c (staying x (record { entry = b; others = xs })) (record { entry = x; others = ys }))) due

-- what a test that it fails takes off both lists
abbrev Offs : Entry → Option EntryAndRest → Option EntryAndRest → Type 0
Offs b None None = Unit {0}
Offs b None (Some m) = ⊥
Offs b (Some n) None = ⊥
Offs b (Some n) (Some m) = (n.entry ≡ m.entry) × Inserted b n.others m.others

offs-skip : (b : Entry) (o : Option EntryAndRest) → Offs b o (option_map (staying b) o)
offs-skip b None = tt
offs-skip b (Some n) = (refl, front n.others)

offs-chosen : (b x : Entry) (n m : EntryAndRest) {xs ys : List Entry} → Inserted b xs ys → Inserted b n.others m.others → n.entry ≡ m.entry → (c : Bool) → Offs b (Some (cond c (staying x n) (record { entry = x; others = xs }))) (Some (cond c (staying x m) (record { entry = x; others = ys })))
offs-chosen b x n m i j same true = (same, further x j)
offs-chosen b x n m i j same false = (refl, i)

offs-there : (b x : Entry) {xs ys : List Entry} → Inserted b xs ys → (c : Bool) (o p : Option EntryAndRest) → Offs b o p → Offs b (cond c (next_or_first x xs o) (option_map (staying x) o)) (cond c (next_or_first x ys p) (option_map (staying x) p))
offs-there b x i true None None same = (refl, i)
offs-there b x i false None None same = tt
offs-there b x i c None (Some m) same = absurd same
offs-there b x i c (Some n) None same = absurd same
offs-there b x {xs} {ys} i true (Some n) (Some m) (same, j) =
    subst (λ (e : Entry). Offs b (Some (cond (sooner n.entry x) (staying x n) (record { entry = x; others = xs }))) (Some (cond (sooner e x) (staying x m) (record { entry = x; others = ys })))) same (offs-chosen b x n m i j same (sooner n.entry x))
offs-there b x i false (Some n) (Some m) (same, j) = (same, further x j)

next_among-inserted : (b : Entry) (test : Entry → Bool) → test b ≡ false → {xs ys : List Entry} → Inserted b xs ys → Offs b (next_among test xs) (next_among test ys)
next_among-inserted b test fails (front xs) =
    subst (λ (c : Bool). Offs b (next_among test xs) (cond c (next_or_first b xs (next_among test xs)) (option_map (staying b) (next_among test xs)))) (sym fails) (offs-skip b (next_among test xs))
next_among-inserted b test fails (further x {xs = xs} {ys = ys} i) =
    offs-there b x i (test x) (next_among test xs) (next_among test ys) (next_among-inserted b test fails i)

offs-left : (b : Entry) {xs ys : List Entry} → Inserted b xs ys → (o p : Option EntryAndRest) → Offs b o p → Inserted b (unwrap_or (option_map (λ n. n.others) o) xs) (unwrap_or (option_map (λ n. n.others) p) ys)
offs-left b i None None same = i
offs-left b i None (Some m) same = absurd same
offs-left b i (Some n) None same = absurd same
offs-left b i (Some n) (Some m) (same, j) = j

pub without_next-inserted : (b : Entry) (test : Entry → Bool) → test b ≡ false → {xs ys : List Entry} → Inserted b xs ys → Inserted b (without_next test xs) (without_next test ys)
without_next-inserted b test fails {xs} {ys} i = offs-left b i (next_among test xs) (next_among test ys) (next_among-inserted b test fails i)

kept-inserted : (b x : Entry) {xs ys : List Entry} → Inserted b xs ys → (c : Bool) → Inserted b (cond c (x ∷ xs) xs) (cond c (x ∷ ys) ys)
kept-inserted b x i true = further x i
kept-inserted b x i false = i

pub without_all-inserted : (b : Entry) (test : Entry → Bool) → test b ≡ false → {xs ys : List Entry} → Inserted b xs ys → Inserted b (without_all test xs) (without_all test ys)
without_all-inserted b test fails (front xs) =
    subst (λ (c : Bool). Inserted b (without_all test xs) (cond (not c) (b ∷ without_all test xs) (without_all test xs))) (sym fails) (front (without_all test xs))
without_all-inserted b test fails (further x i) = kept-inserted b x (without_all-inserted b test fails i) (not (test x))
