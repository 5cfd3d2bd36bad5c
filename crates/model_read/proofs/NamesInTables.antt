-- What a table of names finds, and that it has the first place of each name that was put into it.
use Rattle.std.proofs.Common.{◌≡◌, ℕ, ◌+◌, Bool, true, false, cond, nat_eq, List, [], ◌∷◌, ◌++◌, length, map, Option, Some, None, is_none, refl, sym, ap, ap₂, ◌∙◌, subst, arith, ◌<◌, ◌≤◌, take, get_or}
use Rattle.std.proofs.lemmas.List.{map-append, length-map, length-take-le, take_all}
use Rattle.sig_base.proofs.Lists.{seen_more}
use Rattle.std.specs.Global.{Vec as Bytes}
use Rattle.std.specs.Map.{lookup}
use Rattle.std.specs.Option.{option_map, option_or}
use Rattle.std.proofs.lemmas.Cmp.{nat_list_eq_equiv}
use Rattle.indexmap.specs.IndexMap.{insert_entry}
use lib.Pointwise.{pointwise, bytes_decides}
use Rattle.model_core.specs.Text.Lexing.{same_bytes}
use Rattle.model_core.specs.Text.Numbering.{declared_place}
use Rattle.model_read.specs.NamesPlaced.{listed_place, with_first, HasPlaces}

abbrev pub listed : List (Bytes ℕ × ℕ) → List (List ℕ × ℕ)
listed entries = map (λ (e : Bytes ℕ × ℕ). (e.0.items, e.1)) entries

-- what the code's table finds
pub lookup-place : (name : List ℕ) (entries : List (Bytes ℕ × ℕ)) → lookup (λ (k : Bytes ℕ). pointwise nat_eq name k.items) entries ≡ listed_place name (listed entries)
lookup-place name [] = refl
lookup-place name (e ∷ entries) = ap₂ (λ b o. cond b (Some e.1) o) (nat_list_eq_equiv.symm name e.0.items) (lookup-place name entries)

entry_added : (b : Bool) (x : Bytes ℕ × ℕ) (xs : List (Bytes ℕ × ℕ)) (key : Bytes ℕ) (place : ℕ)
    → (listed_place key.items (listed xs) ≡ None → listed (insert_entry (λ (a b : Bytes ℕ). pointwise nat_eq a.items b.items) xs key place) ≡ listed xs ++ (key.items, place) ∷ [])
    → cond b (Some x.1) (listed_place key.items (listed xs)) ≡ None
    → listed (cond b ((x.0, place) ∷ xs) (x ∷ insert_entry (λ (a b : Bytes ℕ). pointwise nat_eq a.items b.items) xs key place)) ≡ listed (x ∷ xs) ++ (key.items, place) ∷ []
entry_added true x xs key place later none = cc
entry_added false x xs key place later none = ap (λ es. (x.0.items, x.1) ∷ es) (later none)

-- a new name goes to the end
pub listed_more : (entries : List (Bytes ℕ × ℕ)) (key : Bytes ℕ) (place : ℕ) → listed_place key.items (listed entries) ≡ None
    → listed (insert_entry (λ (a b : Bytes ℕ). pointwise nat_eq a.items b.items) entries key place) ≡ listed entries ++ (key.items, place) ∷ []
listed_more [] key place none = refl
listed_more (x ∷ xs) key place none =
    let same = nat_list_eq_equiv.symm key.items x.0.items in
    entry_added (pointwise nat_eq key.items x.0.items) x xs key place (listed_more xs key place) (ap (λ b. cond b (Some x.1) (listed_place key.items (listed xs))) same ∙ none)

pub one_listed : (entries after : List (Bytes ℕ × ℕ)) (key : Bytes ℕ) (place : ℕ) (name : List ℕ) (shown : List (List ℕ × ℕ)) → listed entries ≡ shown → key.items ≡ name → listed_place name shown ≡ None
    → after ≡ insert_entry (λ (a b : Bytes ℕ). pointwise nat_eq a.items b.items) entries key place → listed after ≡ shown ++ (name, place) ∷ []
one_listed entries after key place name shown is same none made =
    ap listed made ∙ listed_more entries key place (ap₂ listed_place same is ∙ none) ∙ ap₂ (λ (shown : List (List ℕ × ℕ)) (name : List ℕ). shown ++ (name, place) ∷ []) is same

-- ---- a table with one name more

-- the place of one more name, if it is this one
abbrev if_same : List ℕ → List ℕ → ℕ → Option ℕ
if_same more name place = cond (same_bytes more name) (Some place) None

listed-end : (name more : List ℕ) (place : ℕ) (table : List (List ℕ × ℕ)) → listed_place name (table ++ (more, place) ∷ []) ≡ option_or (listed_place name table) (if_same more name place)
listed-end name more place [] = refl
listed-end name more place (e ∷ table) = by_test (same_bytes e.0 name) _ _ (listed-end name more place table) where
  by_test : (b : Bool) (o p : Option ℕ) → o ≡ option_or p (if_same more name place) → cond b (Some e.1) o ≡ option_or (cond b (Some e.1) p) (if_same more name place)
  by_test true o p h = refl
  by_test false o p h = h

declared-end : (name more : List ℕ) (names : List (List ℕ)) → declared_place name (names ++ more ∷ []) ≡ option_or (declared_place name names) (if_same more name (length names))
declared-end name more [] = by_test (same_bytes more name) where
  by_test : (b : Bool) → cond b (Some 0) (option_map (λ (k : ℕ). k + 1) None) ≡ cond b (Some 0) None
  by_test true = refl
  by_test false = refl
declared-end name more (n ∷ names) = by_test (same_bytes n name) (same_bytes more name) (declared_place name names) (declared_place name (names ++ more ∷ [])) (declared-end name more names) where
  by_test : (b c : Bool) (o p : Option ℕ) → p ≡ option_or o (cond c (Some (length names)) None) → cond b (Some 0) (option_map (λ k. k + 1) p) ≡ option_or (cond b (Some 0) (option_map (λ k. k + 1) o)) (cond c (Some (length (n ∷ names))) None)
  by_test true c o p h = refl
  by_test false c (Some k) p h = ap (option_map (λ k. k + 1)) h
  by_test false true None p h = ap (option_map (λ k. k + 1)) h ∙ ap Some (omega arith)
  by_test false false None p h = ap (option_map (λ k. k + 1)) h

-- one name more, where the table has the places of those before it
pub has_place_more : (names : List (List ℕ)) (table : List (List ℕ × ℕ)) (more : List ℕ) (place : ℕ) → place ≡ length names → HasPlaces names table → HasPlaces (names ++ more ∷ []) (with_first table more place)
has_place_more names table more place at has name = by_first (listed_place more table) refl where
  known : (b : Bool) (o : Option ℕ) (k : ℕ) → same_bytes more name ≡ b → declared_place name names ≡ o → declared_place more names ≡ Some k → o ≡ option_or o (cond b (Some (length names)) None)
  known b (Some j) k test found there = refl
  known false None k test found there = refl
  known true None k test found there =
      let same : more ≡ name = (bytes_decides more name).0 test in
      let lost : None ≡ Some k = sym found ∙ ap (λ n. declared_place n names) (sym same) ∙ there in cc

  by_first : (o : Option ℕ) → listed_place more table ≡ o → listed_place name (cond (is_none o) (table ++ (more, place) ∷ []) table) ≡ declared_place name (names ++ more ∷ [])
  by_first None none =
      listed-end name more place table ∙ ap₂ (λ o k. option_or o (if_same more name k)) (has name) at ∙ sym (declared-end name more names)
  by_first (Some k) there =
      has name ∙ known (same_bytes more name) (declared_place name names) k refl refl (sym (has more) ∙ there) ∙ sym (declared-end name more names)

-- ---- a loop that puts the names of a list into a table

module _ {X Y : Type 0} (view : X → Y) (name_of : Y → List ℕ) (xs : List X) (i : ℕ) where
  -- the table has the places of the names so far
  abbrev pub PlacesSoFar : List (List ℕ × ℕ) → Type 0
  PlacesSoFar table = HasPlaces (map name_of (map view (take i xs))) table

  pub so_far_more : (x : X) (before after : List (List ℕ × ℕ)) → i < length xs → x ≡ get_or xs i x → PlacesSoFar before → after ≡ with_first before (name_of (view x)) i → HasPlaces (map name_of (map view (take (i + 1) xs))) after
  so_far_more x before after below is has made =
      let longer = ap (map name_of) (seen_more view xs i x below is) ∙ map-append name_of (map view (take i xs)) (view x ∷ []) in
      let long = length-map (map view (take i xs)) name_of ∙ length-map (take i xs) view ∙ length-take-le i xs (omega (arith, below)) in
      subst (HasPlaces (map name_of (map view (take (i + 1) xs)))) (sym made)
      (subst (λ names. HasPlaces names (with_first before (name_of (view x)) i)) (sym longer)
      (has_place_more (map name_of (map view (take i xs))) before (name_of (view x)) i (sym long) has))

  pub so_far_all : (table : List (List ℕ × ℕ)) → length xs ≤ i → PlacesSoFar table → HasPlaces (map name_of (map view xs)) table
  so_far_all table end has = subst (λ (ys : List X). HasPlaces (map name_of (map view ys)) table) (take_all i xs end) has
