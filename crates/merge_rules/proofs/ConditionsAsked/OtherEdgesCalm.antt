-- The other edges leave the second event alone where they are calm and none of them reads what is written.
use Rattle.std.proofs.Common.{◌≡◌, Bool, true, false, ◌&&◌, not, ◌||◌, List, [], ◌∷◌, ◌++◌, ℕ, refl, sym, ◌∙◌, ap, ap₂}
use Rattle.std.specs.List.{list_any, list_all}
use Rattle.model_core.specs.EventGraph.{EventGraph, EventEdge, has_drawn_delay}
use Rattle.model_core.specs.Rules.BoundsOfParts.{quiet_edge}
use Rattle.model_core.specs.Rules.Merge.{reads_none_of}
use Rattle.merge_rules.specs.Inner.ReadingEdges.{reads_one_of, is_calm}

abbrev aside : EventGraph → List ℕ → EventEdge → Bool
aside g writes e = quiet_edge g e && reads_none_of writes e && not (has_drawn_delay e)

-- all do, in two parts
pub aside_is : (g : EventGraph) (writes : List ℕ) (es : List EventEdge) → list_all (aside g writes) es ≡ (list_all (is_calm g) es && not (list_any (reads_one_of writes) es))
aside_is g writes [] = refl
aside_is g writes (e ∷ es) =
    ap (λ b. aside g writes e && b) (aside_is g writes es)
    ∙ split (quiet_edge g e) (reads_one_of writes e) (not (has_drawn_delay e)) (list_all (is_calm g) es) (list_any (reads_one_of writes) es) where
      split : (q r d all any : Bool) → ((q && not r && d) && (all && not any)) ≡ (((q && d) && all) && not (r || any))
      split false r d all any = refl
      split true true d all any = no d all where
        no : (d all : Bool) → false ≡ ((d && all) && false)
        no true true = refl
        no true false = refl
        no false all = refl
      split true false true all any = refl
      split true false false all any = refl

all_joined : (test : EventEdge → Bool) (xs ys : List EventEdge) → list_all test (xs ++ ys) ≡ (list_all test xs && list_all test ys)
all_joined test [] ys = refl
all_joined test (x ∷ xs) ys = ap (λ b. test x && b) (all_joined test xs ys) ∙ three (test x) (list_all test xs) (list_all test ys) where
  three : (a b c : Bool) → (a && (b && c)) ≡ ((a && b) && c)
  three true b c = refl
  three false b c = refl

module _ (g : EventGraph) (writes : List ℕ) (before after others : List EventEdge) (is : before ++ after ≡ others) (x y : Bool) (x_is : x ≡ list_all (is_calm g) before) (y_is : y ≡ list_all (is_calm g) after) where
  abbrev read : Bool
  read = list_any (reads_one_of writes) others

  parted : list_all (aside g writes) others ≡ ((x && y) && not read)
  parted =
      aside_is g writes others
      ∙ ap (λ b. b && not read) (ap (list_all (is_calm g)) (sym is) ∙ all_joined (is_calm g) before after ∙ ap₂ (λ a b. a && b) (sym x_is) (sym y_is))

  pub first_not_calm : x ≡ false → false ≡ list_all (aside g writes) others
  first_not_calm fails = sym (parted ∙ ap (λ b. (b && y) && not read) fails)

  pub second_not_calm : x ≡ true → y ≡ false → false ≡ list_all (aside g writes) others
  second_not_calm holds fails = sym (parted ∙ ap₂ (λ a b. (a && b) && not read) holds fails)

  pub both_calm : x ≡ true → y ≡ true → (r : Bool) → r ≡ read → not r ≡ list_all (aside g writes) others
  both_calm holds also r is_read = sym (parted ∙ ap₂ (λ a b. (a && b) && not read) holds also ∙ ap not (sym is_read))
