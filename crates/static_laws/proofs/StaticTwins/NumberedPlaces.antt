-- Names and the places at which they are declared: the same name has the same place, and one place has one name.
use Rattle.std.proofs.Common.{◌≡◌, ℕ, zero, suc, ◌+◌, ◌<◌, Bool, true, false, cond, List, [], ◌∷◌, ◌++◌, map, length, Option, Some, None, nat_eq, refl, sym, ap, subst, ◌∙◌, add-one, true≢false}
use Rattle.std.specs.Prelude.{slice_get}
use Rattle.std.specs.List.{AllByRecursion, AllZip, IsDistinct}
use Rattle.std.specs.Option.{option_map}
use Rattle.std.proofs.lemmas.Option.{same_Some, slice_get_within}
use Rattle.std.proofs.lemmas.Bool.{eqb-true, eqb-false}
use lib.Pointwise.{bytes_decides}
use Rattle.model_core.specs.Text.Lexing.{same_bytes}
use Rattle.model_core.specs.Text.Numbering.{declared_place, each_numbered}
use Rattle.static_laws.proofs.StaticTwins.MadeOf.{of_each}

-- the name at a place
pub name_at_place : (name : List ℕ) (ns : List (List ℕ)) (k : ℕ) → declared_place name ns ≡ Some k → slice_get ns k ≡ Some name
name_at_place name [] k e = cc
name_at_place name (n ∷ ns) k e = here (same_bytes n name) refl e (name_at_place name ns)
  where
    later : (o : Option ℕ) → ((j : ℕ) → o ≡ Some j → slice_get ns j ≡ Some name) → option_map (λ j. j + 1) o ≡ Some k → slice_get (n ∷ ns) k ≡ Some name
    later None h q = cc
    later (Some j) h q = subst (λ (i : ℕ). slice_get (n ∷ ns) i ≡ Some name) (sym (add-one j) ∙ same_Some (j + 1) k q) (h j refl)

    here : (b : Bool) → same_bytes n name ≡ b → cond b (Some 0) (option_map (λ j. j + 1) (declared_place name ns)) ≡ Some k → ((j : ℕ) → declared_place name ns ≡ Some j → slice_get ns j ≡ Some name) → slice_get (n ∷ ns) k ≡ Some name
    here true same q h = subst (λ (i : ℕ). slice_get (n ∷ ns) i ≡ Some name) (same_Some 0 k q) (ap Some ((bytes_decides n name).0 same))
    here false same q h = later (declared_place name ns) h q

pub place_within : (name : List ℕ) (ns : List (List ℕ)) (k : ℕ) → declared_place name ns ≡ Some k → k < length ns
place_within name ns k e = slice_get_within ns k name (name_at_place name ns k e)

-- two names have one place exactly where they are the same
pub same_place : (ns : List (List ℕ)) (a b : List ℕ) (j k : ℕ) → declared_place a ns ≡ Some j → declared_place b ns ≡ Some k → same_bytes a b ≡ nat_eq j k
same_place ns a b j k p q = by_test (same_bytes a b) refl (nat_eq j k) refl
  where
    one_name : j ≡ k → a ≡ b
    one_name e = same_Some a b (sym (name_at_place a ns j p) ∙ ap (slice_get ns) e ∙ name_at_place b ns k q)

    one_number : a ≡ b → j ≡ k
    one_number e = same_Some j k (sym p ∙ ap (λ n. declared_place n ns) e ∙ q)

    by_test : (s : Bool) → same_bytes a b ≡ s → (t : Bool) → nat_eq j k ≡ t → s ≡ t
    by_test true e true f = refl
    by_test false e false f = refl
    by_test true e false f = let same : j ≡ k = one_number ((bytes_decides a b).0 e) in absurd (eqb-false j k f same)
    by_test false e true f = let same : a ≡ b = one_name (eqb-true j k f) in absurd (true≢false (sym ((bytes_decides a b).1 same) ∙ e))

-- items and what they are numbered as
pub each_zip : {A B : Type 0} (f : A → Option B) (xs : List A) (ys : List B) → each_numbered f xs ≡ Some ys → AllZip (λ x y. f x ≡ Some y) xs ys
each_zip {A} {B} f [] ys e = none ys (same_Some [] ys e)
  where
    none : (zs : List B) → [] ≡ zs → AllZip (λ x y. f x ≡ Some y) [] zs
    none [] h = tt
    none (z ∷ zs) h = cc
each_zip {A} {B} f (x ∷ xs) ys e = let p = of_each f x xs ys e in subst (λ zs. AllZip (λ x y. f x ≡ Some y) (x ∷ xs) zs) p.made (p.is_a, each_zip f xs p.b p.is_b)

-- what the item at a place is numbered as is at that place
pub each_at : {A B : Type 0} (f : A → Option B) (xs : List A) (ys : List B) (k : ℕ) (x : A) → each_numbered f xs ≡ Some ys → slice_get xs k ≡ Some x → (y : B) × (slice_get ys k ≡ Some y) × (f x ≡ Some y)
each_at f [] ys k x e h = cc
each_at {A} {B} f (z ∷ xs) ys k x e h = let p = of_each f z xs ys e in subst (λ zs. (y : B) × (slice_get zs k ≡ Some y) × (f x ≡ Some y)) p.made (at_place k h p.a p.b p.is_a (λ j g. each_at f xs p.b j x p.is_b g))
  where
    at_place : (k : ℕ) → slice_get (z ∷ xs) k ≡ Some x → (a : B) (bs : List B) → f z ≡ Some a → ((j : ℕ) → slice_get xs j ≡ Some x → (y : B) × (slice_get bs j ≡ Some y) × (f x ≡ Some y)) → (y : B) × (slice_get (a ∷ bs) k ≡ Some y) × (f x ≡ Some y)
    at_place zero h a bs is later = (a, refl, ap f (sym (same_Some z x h)) ∙ is)
    at_place (suc j) h a bs is later = later j h

-- what is the same of each item and of what it is numbered as is the same of both lists
pub each_same : {A B C : Type 0} (f : A → Option B) (p : A → C) (q : B → C) → ((x : A) (y : B) → f x ≡ Some y → q y ≡ p x) → (xs : List A) (ys : List B) → each_numbered f xs ≡ Some ys → map q ys ≡ map p xs
each_same f p q same [] ys e = ap (map q) (sym (same_Some [] ys e))
each_same {A} {B} {C} f p q same (x ∷ xs) ys e =
    let r = of_each f x xs ys e in
    ap (map q) (sym r.made) ∙ joined (q r.a) (p x) (map q r.b) (map p xs) (same x r.a r.is_a) (each_same f p q same xs r.b r.is_b)
  where
    joined : (a b : C) (as_ bs : List C) → a ≡ b → as_ ≡ bs → (a ∷ as_) ≡ (b ∷ bs)
    joined a b as_ bs h k = rw (h, k) refl

-- ---- lists of names that have none twice

every_at : (P : List ℕ → Type 0) (xs ys : List (List ℕ)) (k : ℕ) (name : List ℕ) → AllByRecursion P (xs ++ ys) → slice_get ys k ≡ Some name → P name
every_at P [] [] k name h e = cc
every_at P [] (y ∷ ys) zero name h e = subst P (same_Some y name e) h.0
every_at P [] (y ∷ ys) (suc k) name h e = every_at P [] ys k name h.1 e
every_at P (x ∷ xs) ys k name h e = every_at P xs ys k name h.1 e

-- what is declared in the later list isn't in the earlier one
pub declared_apart : (xs ys : List (List ℕ)) (name : List ℕ) (k : ℕ) → IsDistinct same_bytes (xs ++ ys) → declared_place name ys ≡ Some k → declared_place name xs ≡ None
unfolding IsDistinct
declared_apart [] ys name k h e = refl
declared_apart (x ∷ xs) ys name k h e = by_name (same_bytes x name) (every_at (λ y. same_bytes x y ≡ false) xs ys k name h.0 (name_at_place name ys k e)) (declared_place name xs) (declared_apart xs ys name k h.1 e)
  where
    by_name : (b : Bool) → b ≡ false → (o : Option ℕ) → o ≡ None → cond b (Some 0) (option_map (λ j. j + 1) o) ≡ None
    by_name b f o g = rw (f, g) refl

pub distinct_behind : (xs ys : List (List ℕ)) → IsDistinct same_bytes (xs ++ ys) → IsDistinct same_bytes ys
unfolding IsDistinct
distinct_behind [] ys h = h
distinct_behind (x ∷ xs) ys h = distinct_behind xs ys h.1

every_front : (P : List ℕ → Type 0) (xs ys : List (List ℕ)) → AllByRecursion P (xs ++ ys) → AllByRecursion P xs
every_front P [] ys h = tt
every_front P (x ∷ xs) ys h = (h.0, every_front P xs ys h.1)

pub distinct_front : (xs ys : List (List ℕ)) → IsDistinct same_bytes (xs ++ ys) → IsDistinct same_bytes xs
unfolding IsDistinct
distinct_front [] ys h = tt
distinct_front (x ∷ xs) ys h = (every_front (λ y. same_bytes x y ≡ false) xs ys h.0, distinct_front xs ys h.1)

pub undeclared_front : (xs ys : List (List ℕ)) (name : List ℕ) → declared_place name (xs ++ ys) ≡ None → declared_place name xs ≡ None
undeclared_front [] ys name e = refl
undeclared_front (x ∷ xs) ys name e = by_name (same_bytes x name) (declared_place name (xs ++ ys)) e (undeclared_front xs ys name)
  where
    by_name : (b : Bool) (o : Option ℕ) → cond b (Some 0) (option_map (λ j. j + 1) o) ≡ None → (o ≡ None → declared_place name xs ≡ None) → cond b (Some 0) (option_map (λ j. j + 1) (declared_place name xs)) ≡ None
    by_name true o h later = cc
    by_name false None h later = rw (later refl) refl
    by_name false (Some j) h later = cc
