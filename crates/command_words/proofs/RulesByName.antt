-- Which of the rules of the command line has a name, an id or a place.
use Rattle.std.proofs.Common.{◌≡◌, ◌∙◌, ◌&&◌, ℕ, Bool, true, false, cond, not, nat_eq, bytes_eq, ◌==◌, is_some, refl, sym, ap, List, [], ◌∷◌, Some, None, map, find, codes}
use Rattle.std.specs.List.{list_any}
use Rattle.std.specs.Option.{option_map_or}
use Rattle.std.proofs.lemmas.Slice.Eq.{bytes_eq-Decides}
use Rattle.std.proofs.lemmas.Cmp.{nat_list_eq_equiv}
use lib.Pointwise.{pointwise}
use Rattle.clap.specs.Walk.{Rule, arg_by_id, arg_by_long, has_long}
use Rattle.clap.specs.Simple.{filled, with_index}
use Rattle.command_words.specs.Inner.ClapCommand.{option, command_word}

-- the rules as `clap` completes them
abbrev pub built_word : Rule
built_word = with_index 1 (filled command_word)

abbrev pub built_option : List ℕ → Rule
built_option name = with_index 1 (filled (option name))

abbrev pub built_rules : List (List ℕ) → List Rule
built_rules names = built_word ∷ map built_option names

-- the name is one of the names
abbrev pub has_name : List (List ℕ) → List ℕ → Bool
has_name names name = list_any (λ n. pointwise nat_eq name n) names

-- a name that passes the test for this one is this one
pub same_name : (a b : List ℕ) → bytes_eq a b ≡ true → a ≡ b
same_name a b e = (bytes_eq-Decides a b).0 e

pub itself : (a : List ℕ) → bytes_eq a a ≡ true
itself a = (bytes_eq-Decides a a).1 refl

long_among : (names : List (List ℕ)) (name : List ℕ)
    → find (λ (a : Rule). not (is_some a.index) && has_long a name) (map built_option names) ≡ cond (has_name names name) (Some (built_option name)) None
long_among [] name = refl
long_among (n ∷ names) name = go (bytes_eq n name) refl (long_among names name)
  where
    go : (b : Bool) → bytes_eq n name ≡ b → find (λ (a : Rule). not (is_some a.index) && has_long a name) (map built_option names) ≡ cond (has_name names name) (Some (built_option name)) None
        → find (λ (a : Rule). not (is_some a.index) && has_long a name) (map built_option (n ∷ names)) ≡ cond (has_name (n ∷ names) name) (Some (built_option name)) None
    go true e rest = rw (e, nat_list_eq_equiv.symm name n ∙ e) (ap (λ m. Some (built_option m)) (same_name n name e))
    go false e rest = rw (e, nat_list_eq_equiv.symm name n ∙ e) rest

-- an option is found by its name
pub by_long : (names : List (List ℕ)) (name : List ℕ) → arg_by_long (built_rules names) name ≡ cond (has_name names name) (Some (built_option name)) None
by_long names name = long_among names name

id_among : (names : List (List ℕ)) (name : List ℕ) → find (λ (a : Rule). bytes_eq a.id name) (map built_option names) ≡ cond (has_name names name) (Some (built_option name)) None
id_among [] name = refl
id_among (n ∷ names) name = go (bytes_eq n name) refl (id_among names name)
  where
    go : (b : Bool) → bytes_eq n name ≡ b → find (λ (a : Rule). bytes_eq a.id name) (map built_option names) ≡ cond (has_name names name) (Some (built_option name)) None
        → find (λ (a : Rule). bytes_eq a.id name) (map built_option (n ∷ names)) ≡ cond (has_name (n ∷ names) name) (Some (built_option name)) None
    go true e rest = rw (e, nat_list_eq_equiv.symm name n ∙ e) (ap (λ m. Some (built_option m)) (same_name n name e))
    go false e rest = rw (e, nat_list_eq_equiv.symm name n ∙ e) rest

-- one of the names isn't a name that is none of them
pub apart : (names : List (List ℕ)) (name other : List ℕ) → has_name names name ≡ true → has_name names other ≡ false → bytes_eq other name ≡ false
apart names name other here none = go (bytes_eq other name) refl
  where
    go : (b : Bool) → bytes_eq other name ≡ b → b ≡ false
    go false e = refl
    go true e = sym here ∙ ap (has_name names) (sym (same_name other name e)) ∙ none

-- and by its id
pub by_id : (names : List (List ℕ)) (name : List ℕ) → has_name names (codes "command") ≡ false → has_name names name ≡ true → arg_by_id (built_rules names) name ≡ Some (built_option name)
by_id names name none here = rw (apart names name (codes "command") here none) (id_among names name ∙ ap (λ b. cond b (Some (built_option name)) None) here)

-- there is no second place
pub second_place : (names : List (List ℕ)) → find (λ (a : Rule). option_map_or (λ k. k == 2) a.index false) (map built_option names) ≡ None
second_place [] = refl
second_place (n ∷ names) = second_place names
