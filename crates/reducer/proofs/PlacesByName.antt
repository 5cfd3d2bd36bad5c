-- What has a name of its own is found by it: the vertices and the variables of a valid model.
use Rattle.std.proofs.Common.{◌≡◌, ℕ, zero, suc, ◌+◌, ◌<◌, Bool, false, cond, List, [], ◌∷◌, ◌++◌, map, length, Some, refl, ap, ◌∙◌, arith}
use Rattle.std.specs.Prelude.{slice_get}
use Rattle.std.specs.List.{IsDistinct, AllByRecursion}
use Rattle.std.specs.Option.{option_map, option_map_or, option_and_then}
use lib.Pointwise.{bytes_decides}
use Rattle.model_core.specs.EventGraph.{EventGraph, EventVertex, Variable, WeightTable}
use Rattle.model_core.specs.Text.Lexing.{same_bytes}
use Rattle.model_core.specs.Text.Numbering.{declared_place, each_numbered}
use Rattle.model_core.specs.Static.Reading.{IsValid}
use Rattle.static_laws.proofs.StaticTwins.ModelTwin.{accepted_by_itself}

-- ---- names of their own

distinct_front : {A : Type 0} (same : A → A → Bool) (front back : List A) → IsDistinct same (front ++ back) → IsDistinct same front
unfolding IsDistinct
distinct_front same [] back distinct = tt
distinct_front same (x ∷ front) back distinct = (unlike front distinct.0, distinct_front same front back distinct.1) where
  unlike : (front : List _) → AllByRecursion (λ y. same x y ≡ false) (front ++ back) → AllByRecursion (λ y. same x y ≡ false) front
  unlike [] all = tt
  unlike (y ∷ front) all = (all.0, unlike front all.1)

distinct-back : {A : Type 0} (same : A → A → Bool) (front back : List A) → IsDistinct same (front ++ back) → IsDistinct same back
unfolding IsDistinct
distinct-back same [] back distinct = distinct
distinct-back same (x ∷ front) back distinct = distinct-back same front back distinct.1

module _ (g : EventGraph) (valid : IsValid g) where
  abbrev variables : List (List ℕ)
  variables = map (λ (v : Variable). v.name) g.variables

  abbrev tables : List (List ℕ)
  tables = map (λ (t : WeightTable). t.name) g.tables

  abbrev vertices : List (List ℕ)
  vertices = map (λ (v : EventVertex). v.name) g.vertices

  declared_once : IsDistinct same_bytes (variables ++ tables ++ vertices)
  declared_once = ((accepted_by_itself valid.1.model g).0 valid.1.accepted).1.parts.declared_once

  pub variables_distinct : IsDistinct same_bytes variables
  variables_distinct = distinct_front same_bytes variables tables (distinct_front same_bytes (variables ++ tables) vertices declared_once)

  pub vertices_distinct : IsDistinct same_bytes vertices
  vertices_distinct = distinct-back same_bytes (variables ++ tables) vertices declared_once

-- ---- places of names

module _ {A : Type 0} (name_of : A → List ℕ) where
  -- the name of the element at a place
  abbrev name_at : List A → ℕ → List ℕ
  name_at xs k = option_map_or name_of (slice_get xs k) []

  unlike_later : (name : List ℕ) (xs : List A) (k : ℕ) → k < length xs → AllByRecursion (λ y. same_bytes name y ≡ false) (map name_of xs) → same_bytes name (name_at xs k) ≡ false
  unlike_later name [] k below all = absurd (omega arith)
  unlike_later name (x ∷ xs) zero below all = all.0
  unlike_later name (x ∷ xs) (suc k) below all = unlike_later name xs k (omega arith) all.1

  pub place_of_its_name : (xs : List A) (k : ℕ) → k < length xs → IsDistinct same_bytes (map name_of xs) → declared_place (name_at xs k) (map name_of xs) ≡ Some k
  unfolding IsDistinct
  place_of_its_name [] k below distinct = absurd (omega arith)
  place_of_its_name (x ∷ xs) zero below distinct = ap (λ b. cond b (Some 0) (option_map (λ k. k + 1) (declared_place (name_of x) (map name_of xs)))) ((bytes_decides (name_of x) (name_of x)).1 refl)
  place_of_its_name (x ∷ xs) (suc k) below distinct =
      let name = name_at xs k in
      ap (λ b. cond b (Some 0) (option_map (λ k. k + 1) (declared_place name (map name_of xs)))) (unlike_later (name_of x) xs k (omega arith) distinct.0)
      ∙ ap (option_map (λ k. k + 1)) (place_of_its_name xs k (omega arith) distinct.1) ∙ ap Some (omega arith)

  pub places_of_their_names : (xs : List A) (ks : List ℕ) → AllByRecursion (λ k. k < length xs) ks → IsDistinct same_bytes (map name_of xs) → each_numbered (λ name. declared_place name (map name_of xs)) (map (name_at xs) ks) ≡ Some ks
  places_of_their_names xs [] within distinct = refl
  places_of_their_names xs (k ∷ ks) within distinct =
      let others = each_numbered (λ name. declared_place name (map name_of xs)) (map (name_at xs) ks) in
      ap (option_and_then (λ (y : ℕ). option_and_then (λ (ys : List ℕ). Some (y ∷ ys)) others)) (place_of_its_name xs k within.0 distinct)
      ∙ ap (option_and_then (λ (ys : List ℕ). Some (k ∷ ys))) (places_of_their_names xs ks within.1 distinct)
