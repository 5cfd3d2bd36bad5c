-- No name of a list is reported as repeated exactly where its names are distinct, and then their numbers are.
use Rattle.std.proofs.Common.{◌≡◌, ◌↔◌, Bool, false, List, [], ◌∷◌, map, ℕ, refl, sym, ◌∙◌}
use Rattle.std.specs.List.{AllByRecursion, AllZip, IsDistinct, list_any}
use Rattle.std.proofs.lemmas.Cmp.{nat_list_eq_equiv}
use Rattle.std.proofs.lemmas.Bool.{or_parts, or_from}
use Rattle.model_core.specs.declared.static_kind.StaticKind.TheVariants as rules
use Rattle.model_core.specs.Text.Lexing.{same_bytes}
use Rattle.model_core.specs.Text.Written.{WrittenName}
use Rattle.model_core.specs.Static.RuleTable.{duplicate_name}
use Rattle.model_core.specs.Static.PartFaults.{repeated_names}
use Rattle.model_core.proofs.EmptyLists.{left_empty, right_empty}
use Rattle.static_laws.proofs.StaticTwins.Twins.{both_empty, broken_not}

abbrev pub names_of : List WrittenName → List (List ℕ)
names_of ns = map (λ (n : WrittenName). n.name) ns

-- none of the earlier names
abbrev IsNew : List (List ℕ) → List ℕ → Type 0
IsNew earlier name = list_any (same_bytes name) earlier ≡ false

-- what is new after one more name is new and isn't that name
apart_from : (earlier : List (List ℕ)) (name : List ℕ) (ns : List (List ℕ)) → AllByRecursion (IsNew (name ∷ earlier)) ns → AllByRecursion (IsNew earlier) ns × AllByRecursion (λ m. same_bytes name m ≡ false) ns
apart_from earlier name [] h = (tt, tt)
apart_from earlier name (m ∷ ns) h =
    let p = or_parts (same_bytes m name) (list_any (same_bytes m) earlier) h.0 in
    let q = apart_from earlier name ns h.1 in
    ((p.1, q.0), (nat_list_eq_equiv.symm name m ∙ p.0, q.1))

in_front : (earlier : List (List ℕ)) (name : List ℕ) (ns : List (List ℕ)) → AllByRecursion (IsNew earlier) ns → AllByRecursion (λ m. same_bytes name m ≡ false) ns → AllByRecursion (IsNew (name ∷ earlier)) ns
in_front earlier name [] h k = tt
in_front earlier name (m ∷ ns) h k = (or_from (same_bytes m name) (list_any (same_bytes m) earlier) (nat_list_eq_equiv.symm m name ∙ k.0) h.0, in_front earlier name ns h.1 k.1)

not_repeated : (earlier : List (List ℕ)) (ns : List WrittenName) → repeated_names earlier ns ≡ [] → AllByRecursion (IsNew earlier) (names_of ns) × IsDistinct same_bytes (names_of ns)
unfolding IsDistinct
not_repeated earlier [] e = (tt, tt)
not_repeated earlier (n ∷ ns) e =
    let here = (broken_not (list_any (same_bytes n.name) earlier) rules.DuplicateName n.at).0 (left_empty (duplicate_name earlier n) (repeated_names (n.name ∷ earlier) ns) e) in
    let later = not_repeated (n.name ∷ earlier) ns (right_empty (duplicate_name earlier n) (repeated_names (n.name ∷ earlier) ns) e) in
    let p = apart_from earlier n.name (names_of ns) later.0 in
    ((here, p.0), (p.1, later.1))

none_repeated : (earlier : List (List ℕ)) (ns : List WrittenName) → AllByRecursion (IsNew earlier) (names_of ns) → IsDistinct same_bytes (names_of ns) → repeated_names earlier ns ≡ []
unfolding IsDistinct
none_repeated earlier [] h k = refl
none_repeated earlier (n ∷ ns) h k =
    both_empty (duplicate_name earlier n) (repeated_names (n.name ∷ earlier) ns)
    ((broken_not (list_any (same_bytes n.name) earlier) rules.DuplicateName n.at).1 h.0)
    (none_repeated (n.name ∷ earlier) ns (in_front earlier n.name (names_of ns) h.1 k.0) k.1)

all_new : (ns : List (List ℕ)) → AllByRecursion (IsNew []) ns
all_new [] = tt
all_new (n ∷ ns) = (refl, all_new ns)

pub distinct_names : (ns : List WrittenName) → repeated_names [] ns ≡ [] ↔ IsDistinct same_bytes (names_of ns)
distinct_names ns = (λ e. (not_repeated [] ns e).1, λ d. none_repeated [] ns (all_new (names_of ns)) d)

-- ---- the same of the numbers of names

module _ {A B : Type 0} (R : A → B → Type 0) (e : A → A → Bool) (f : B → B → Bool) (same : (a b : A) (x y : B) → R a x → R b y → e a b ≡ f x y) where
  apart : (a : A) (x : B) (as_ : List A) (xs : List B) → R a x → AllZip R as_ xs → AllByRecursion (λ b. e a b ≡ false) as_ → AllByRecursion (λ y. f x y ≡ false) xs
  apart a x [] [] r z h = tt
  apart a x [] (y ∷ ys) r z h = absurd z
  apart a x (b ∷ bs) [] r z h = absurd z
  apart a x (b ∷ bs) (y ∷ ys) r z h = (sym (same a b x y r z.0) ∙ h.0, apart a x bs ys r z.1 h.1)

  pub distinct_along : (as_ : List A) (xs : List B) → AllZip R as_ xs → IsDistinct e as_ → IsDistinct f xs
  unfolding IsDistinct
  distinct_along [] [] z h = tt
  distinct_along [] (x ∷ xs) z h = absurd z
  distinct_along (a ∷ as_) [] z h = absurd z
  distinct_along (a ∷ as_) (x ∷ xs) z h = (apart a x as_ xs z.0 z.1 h.0, distinct_along as_ xs z.1 h.1)

  apart_back : (a : A) (x : B) (as_ : List A) (xs : List B) → R a x → AllZip R as_ xs → AllByRecursion (λ y. f x y ≡ false) xs → AllByRecursion (λ b. e a b ≡ false) as_
  apart_back a x [] [] r z h = tt
  apart_back a x [] (y ∷ ys) r z h = absurd z
  apart_back a x (b ∷ bs) [] r z h = absurd z
  apart_back a x (b ∷ bs) (y ∷ ys) r z h = (same a b x y r z.0 ∙ h.0, apart_back a x bs ys r z.1 h.1)

  pub distinct_back : (as_ : List A) (xs : List B) → AllZip R as_ xs → IsDistinct f xs → IsDistinct e as_
  unfolding IsDistinct
  distinct_back [] [] z h = tt
  distinct_back [] (x ∷ xs) z h = absurd z
  distinct_back (a ∷ as_) [] z h = absurd z
  distinct_back (a ∷ as_) (x ∷ xs) z h = (apart_back a x as_ xs z.0 z.1 h.0, distinct_back as_ xs z.1 h.1)
