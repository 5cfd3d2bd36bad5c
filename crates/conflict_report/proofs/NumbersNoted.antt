-- Sets of those that hold a number: with more numbers noted, and those that hold one in common.
use Rattle.std.proofs.Common.{◌≡◌, ◌⊎◌, inl, inr, ℕ, ◌+◌, ◌<◌, ◌≤◌, ◌==◌, Bool, true, false, ◌&&◌, ◌||◌, cond, List, [], ◌∷◌, ◌++◌, length, get_or, refl, sym, ap, ap₂, subst, ◌∙◌, arith}
use Rattle.std.specs.Prelude.{nat_lt}
use Rattle.std.specs.List.{range_with_len, list_any, flat_map}
use Rattle.std.proofs.Math.Bool.{or_assoc, or-false}
use Rattle.std.proofs.Math.ListN.{set}
use Rattle.std.proofs.lemmas.Bool.{cases_eq, cases_lt, ne_eqb, lt-ltb, le-ltb, and_parts, and_from, both_ways}
use Rattle.std.proofs.lemmas.List.{get_or-set_same, get_or-set_other, get_or_past, get_or_default, map-id, flat_map_more}
use Rattle.std.proofs.lemmas.List.Folds.{list_any-append, list_any_at}
use Rattle.std.proofs.lemmas.List.FromFn.{get_or-range_with_len, length-range_with_len, map-range_with_len_more}
use Rattle.std.proofs.lemmas.Bool.Decides.{same_from_decides}
use Rattle.model_core.specs.Rules.MarkedPlaces.{is_among}
use Rattle.model_core.specs.Conflicts.Conflict.{in_common}
use Rattle.model_core.proofs.Among.{any-among}
use Rattle.model_core.proofs.AmongUses.{among-append}
use Rattle.model_core.proofs.PlacesChanged.{same_number}
use Rattle.mark_laws.proofs.EntailedMarks.{among-place, place-among}
use Rattle.conflict_report.specs.Inner.NumberHolders.{has_vertex, holds, hold_common, HoldExactly, HoldMore, only_at, numbers_before}
use Rattle.conflict_report.proofs.BitsOfSets.{none-has, padded}
use Rattle.conflict_report.proofs.NumbersInCommon.{shared}

-- ---- sets and one number

pub none-holds : (k j : ℕ) → holds [] k j ≡ false
unfolding holds
none-holds k j = none-has j

-- an empty set after the others
pub reached : (sets more : List (List ℕ)) → more ≡ sets ++ [] ∷ [] → (k j : ℕ) → holds more k j ≡ holds sets k j
unfolding holds
reached sets more is k j = ap (λ (ss : List (List ℕ)). has_vertex (get_or ss k []) j) is ∙ ap (λ (s : List ℕ). has_vertex s j) (padded [] sets 1 k)

-- the set of a number, or none
pub held-in : (sets now : List (List ℕ)) (number : ℕ) (s : List ℕ) → sets ≡ now → number < length sets → s ≡ get_or sets number s → (j : ℕ) → has_vertex s j ≡ holds now number j
unfolding holds
held-in sets now number s same inside is j =
    ap (λ (s : List ℕ). has_vertex s j) (is ∙ get_or_default sets number s [] inside ∙ ap (λ (ss : List (List ℕ)). get_or ss number []) same)

pub not-held : (sets now : List (List ℕ)) (number : ℕ) → sets ≡ now → length sets ≤ number → (j : ℕ) → false ≡ holds now number j
unfolding holds
not-held sets now number same beyond j =
    sym (none-has j) ∙ ap (λ (s : List ℕ). has_vertex s j) (sym (get_or_past sets number [] beyond) ∙ ap (λ (ss : List (List ℕ)). get_or ss number []) same)

-- a vertex is put into the set of a number
put-held : (sets : List (List ℕ)) (number vertex : ℕ) (set_now : List ℕ) → number < length sets → ((j : ℕ) → has_vertex set_now j ≡ ((vertex == j) || has_vertex (get_or sets number []) j)) → HoldMore (only_at vertex (number ∷ [])) sets (set sets number set_now)
unfolding holds
put-held sets number vertex set_now inside is k j = by (cases_eq k number) where
  of_one : (b : Bool) → is_among (cond b (number ∷ []) []) number ≡ b
  of_one true = ap (λ c. c || false) (same_number number number refl)
  of_one false = refl

  of_others : (number == k) ≡ false → (b : Bool) → is_among (cond b (number ∷ []) []) k ≡ false
  of_others other true = ap (λ c. c || false) other
  of_others other false = refl

  by : (k ≡ number) ⊎ (k ≡ number → ⊥) → has_vertex (get_or (set sets number set_now) k []) j ≡ (is_among (cond (vertex == j) (number ∷ []) []) k || has_vertex (get_or sets k []) j)
  by (inl same) =
      ap (λ n. has_vertex (get_or (set sets number set_now) n []) j) same
      ∙ ap (λ (s : List ℕ). has_vertex s j) (get_or-set_same sets number set_now [] inside)
      ∙ is j
      ∙ ap₂ (λ b n. b || has_vertex (get_or sets n []) j) (sym (of_one (vertex == j)) ∙ ap (is_among (cond (vertex == j) (number ∷ []) [])) (sym same)) (sym same)
  by (inr apart) =
      ap (λ (s : List ℕ). has_vertex s j) (get_or-set_other sets number k set_now [] apart)
      ∙ ap (λ b. b || has_vertex (get_or sets k []) j) (sym (of_others (ne_eqb number k (λ e. apart (sym e))) (vertex == j)))

-- where the sets reach as far as the number
pub put-reached : (old grown sets : List (List ℕ)) (number vertex : ℕ) (was s : List ℕ) → ((k j : ℕ) → holds grown k j ≡ holds old k j) → number < length grown → sets ≡ grown → was ≡ get_or sets number was → ((j : ℕ) → has_vertex s j ≡ ((vertex == j) || has_vertex was j)) → HoldMore (only_at vertex (number ∷ [])) old (set sets number s)
put-reached old grown sets number vertex was s same inside opened is put k j =
    let within : number < length sets = subst (λ (ss : List (List ℕ)). number < length ss) (sym opened) inside in
    put-held sets number vertex s within (λ j. put j ∙ ap (λ (w : List ℕ). (vertex == j) || has_vertex w j) (is ∙ get_or_default sets number was [] within)) k j
    ∙ ap (λ b. is_among (cond (vertex == j) (number ∷ []) []) k || b) (ap (λ (ss : List (List ℕ)). holds ss k j) opened ∙ same k j)

-- ---- more numbers noted

or_regrouped : (a b c : Bool) → (b || (a || c)) ≡ ((a || b) || c)
or_regrouped true true c = refl
or_regrouped true false c = refl
or_regrouped false b c = refl

-- some and then others
pub hold-more : (f g : ℕ → List ℕ) (old mid new : List (List ℕ)) → HoldMore f old mid → HoldMore g mid new → HoldMore (λ j. f j ++ g j) old new
hold-more f g old mid new first then k j =
    then k j ∙ ap (λ b. is_among (g j) k || b) (first k j) ∙ or_regrouped (is_among (f j) k) (is_among (g j) k) (holds old k j) ∙ ap (λ b. b || holds old k j) (sym (among-append (f j) (g j) k))

-- the same numbers, given otherwise
pub hold-alike : (f g : ℕ → List ℕ) (old new : List (List ℕ)) → ((j : ℕ) → f j ≡ g j) → HoldMore f old new → HoldMore g old new
hold-alike f g old new same more k j = more k j ∙ ap (λ (ns : List ℕ). is_among ns k || holds old k j) (same j)

joined-if : (b : Bool) (xs ys : List ℕ) → cond b xs [] ++ cond b ys [] ≡ cond b (xs ++ ys) []
joined-if true xs ys = refl
joined-if false xs ys = refl

-- two lists, at one vertex
pub hold-two_lists : (xs ys : List ℕ) (vertex : ℕ) (old mid new : List (List ℕ)) → HoldMore (only_at vertex xs) old mid → HoldMore (only_at vertex ys) mid new → HoldMore (only_at vertex (xs ++ ys)) old new
hold-two_lists xs ys vertex old mid new first then =
    hold-alike (λ j. only_at vertex xs j ++ only_at vertex ys j) (only_at vertex (xs ++ ys)) old new (λ j. joined-if (vertex == j) xs ys)
    (hold-more (only_at vertex xs) (only_at vertex ys) old mid new first then)

-- nothing more
pub hold-no_more : (f : ℕ → List ℕ) (old : List (List ℕ)) → ((j : ℕ) → f j ≡ []) → HoldMore f old old
hold-no_more f old none k j = ap (λ (ns : List ℕ). is_among ns k || holds old k j) (sym (none j))

-- what is one number more, at one vertex
pub hold-number_more : (numbers more : List ℕ) (vertex number : ℕ) (old mid new : List (List ℕ)) → more ≡ numbers ++ number ∷ [] → HoldMore (only_at vertex numbers) old mid → HoldMore (only_at vertex (number ∷ [])) mid new → HoldMore (only_at vertex more) old new
hold-number_more numbers more vertex number old mid new is so_far one =
    subst (λ (ns : List ℕ). HoldMore (only_at vertex ns) old new) (sym is) (hold-two_lists numbers (number ∷ []) vertex old mid new so_far one)

-- what one part more of several adds
pub hold-part_more : {A : Type 0} (F : ℕ → A → List ℕ) (parts more : List A) (part : A) (old mid new : List (List ℕ)) → more ≡ parts ++ part ∷ [] → HoldMore (λ j. flat_map (F j) parts) old mid → HoldMore (λ j. F j part) mid new → HoldMore (λ j. flat_map (F j) more) old new
hold-part_more F parts more part old mid new is so_far one =
    hold-alike (λ j. flat_map (F j) parts ++ F j part) (λ j. flat_map (F j) more) old new (λ j. flat_map_more (F j) [] parts part ∙ ap (flat_map (F j)) (sym is))
    (hold-more (λ j. flat_map (F j) parts) (λ j. F j part) old mid new so_far one)

-- of those who held nothing
pub hold-first : (f : ℕ → List ℕ) (new : List (List ℕ)) → HoldMore f [] new → HoldExactly f new
hold-first f new more k j = more k j ∙ ap (λ b. is_among (f j) k || b) (none-holds k j) ∙ or-false (is_among (f j) k)

-- ---- the numbers of one vertex more

module _ (L : ℕ → List ℕ) (i j k : ℕ) where
  abbrev own_or_before : Bool → Bool → Bool
  own_or_before own before = is_among (cond own (L i) []) k || is_among (cond before (L j) []) k

  abbrev after : Bool → Bool
  after before = is_among (cond before (L j) []) k

  numbers-next : own_or_before (i == j) (nat_lt j i) ≡ after (nat_lt j (i + 1))
  numbers-next = by (cases_lt j i) (cases_eq j i) where
    by : (j < i) ⊎ (i ≤ j) → (j ≡ i) ⊎ (j ≡ i → ⊥) → own_or_before (i == j) (nat_lt j i) ≡ after (nat_lt j (i + 1))
    by (inl before) either = ap₂ own_or_before (ne_eqb i j (λ e. absurd (omega (arith, e)))) (lt-ltb j i before) ∙ sym (ap after (lt-ltb j (i + 1) (omega arith)))
    by (inr past) (inl same) =
        ap₂ own_or_before (same_number i j (sym same)) (le-ltb j i past) ∙ or-false (is_among (L i) k) ∙ ap (λ n. is_among (L n) k) (sym same) ∙ sym (ap after (lt-ltb j (i + 1) (omega arith)))
    by (inr past) (inr apart) = ap₂ own_or_before (ne_eqb i j (λ e. apart (sym e))) (le-ltb j i past) ∙ sym (ap after (le-ltb j (i + 1) (omega arith)))

pub none-before : (L : ℕ → List ℕ) (sets : List (List ℕ)) → sets ≡ [] → HoldExactly (numbers_before 0 L) sets
none-before L sets empty k j = ap (λ (ss : List (List ℕ)). holds ss k j) empty ∙ none-holds k j ∙ ap (λ b. is_among (cond b (L j) []) k) (sym (le-ltb j 0 (omega arith)))

pub noted-next : (L : ℕ → List ℕ) (i : ℕ) (old new : List (List ℕ)) → HoldExactly (numbers_before i L) old → HoldMore (only_at i (L i)) old new → HoldExactly (numbers_before (i + 1) L) new
noted-next L i old new before more k j = more k j ∙ ap (λ b. is_among (cond (i == j) (L i) []) k || b) (before k j) ∙ numbers-next L i j k

-- ---- vertices that hold a number in common

range-next : (n : ℕ) → range_with_len 0 (n + 1) ≡ range_with_len 0 n ++ n ∷ []
range-next n = sym (map-id (range_with_len 0 (n + 1))) ∙ map-range_with_len_more (λ (k : ℕ). k) 0 n n (omega arith) ∙ ap (λ ks. ks ++ n ∷ []) (map-id (range_with_len 0 n))

-- one number more is looked at
pub common-more : (sets others : List (List ℕ)) (a j n : ℕ) (before after old : Bool) → after ≡ (before || (holds sets n a && holds others n j)) → before ≡ (old || list_any (λ k. holds sets k a && holds others k j) (range_with_len 0 n)) → after ≡ (old || list_any (λ k. holds sets k a && holds others k j) (range_with_len 0 (n + 1)))
common-more sets others a j n before after old is so_far =
    let p : ℕ → Bool = λ k. holds sets k a && holds others k j in
    is ∙ ap (λ b. b || p n) so_far ∙ or_assoc old (list_any p (range_with_len 0 n)) (p n) ∙ ap (λ b. old || (list_any p (range_with_len 0 n) || b)) (sym (or-false (p n)))
    ∙ ap (λ b. old || b) (sym (list_any-append p (range_with_len 0 n) (n ∷ []))) ∙ ap (λ ks. old || list_any p ks) (sym (range-next n))

held-inside : (sets : List (List ℕ)) (k j : ℕ) → holds sets k j ≡ true → k < length sets
unfolding holds
held-inside sets k j held = by (cases_lt k (length sets)) where
  by : (k < length sets) ⊎ (length sets ≤ k) → k < length sets
  by (inl below) = below
  by (inr beyond) = absurd (both_ways (has_vertex (get_or sets k []) j) (ap (λ (s : List ℕ). has_vertex s j) (get_or_past sets k [] beyond) ∙ none-has j) held)

module _ (f g : ℕ → List ℕ) (sets others : List (List ℕ)) (here : HoldExactly f sets) (there : HoldExactly g others) (a b : ℕ) where
  held-shared : hold_common sets others a b ≡ true → in_common (f a) (g b) ≡ true
  held-shared e =
      let (k, within, holds_both) = any-among (λ k. holds sets k a && holds others k b) (range_with_len 0 (length sets)) e in
      let (mine, theirs) = and_parts (holds sets k a) (holds others k b) holds_both in
      shared (f a) (g b) k (among-place (f a) k (sym (here k a) ∙ mine)) (among-place (g b) k (sym (there k b) ∙ theirs))

  shared-held : in_common (f a) (g b) ≡ true → hold_common sets others a b ≡ true
  shared-held e =
      let (k, in_f, in_g) = any-among (is_among (g b)) (f a) e in
      let mine = here k a ∙ place-among (f a) k in_f in
      let theirs = there k b ∙ in_g in
      let inside = held-inside sets k a mine in
      let at : get_or (range_with_len 0 (length sets)) k 0 ≡ k = get_or-range_with_len 0 (length sets) k 0 inside ∙ omega arith in
      list_any_at (λ k. holds sets k a && holds others k b) (range_with_len 0 (length sets)) k 0 (omega (arith, inside, length-range_with_len 0 (length sets)))
      (ap (λ i. holds sets i a && holds others i b) at ∙ and_from (holds sets k a) (holds others k b) mine theirs)

  -- by exact sets those are found whose lists have a number in common
  pub common-found : hold_common sets others a b ≡ in_common (f a) (g b)
  common-found = same_from_decides (hold_common sets others a b) (in_common (f a) (g b)) (held-shared, shared-held) (λ some. some, λ some. some)
