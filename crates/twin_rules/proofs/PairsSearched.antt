-- Pairs that are known not to be alike, one more after the other.
use Rattle.std.proofs.Common.{◌≡◌, ◌⊎◌, inl, inr, ℕ, zero, suc, ◌+◌, ◌<◌, ◌≤◌, ◌==◌, nat_lt, Bool, true, false, ◌&&◌, List, [], ◌∷◌, length, drop, Some, None, refl, sym, ◌∙◌, ap, arith}
use Rattle.std.specs.Prelude.{is_none, take, if◌then◌else◌}
use Rattle.std.specs.Option.{option_map}
use Rattle.std.proofs.lemmas.Bool.Decides.{nat_tests}
use Rattle.std.proofs.lemmas.Bool.{ltb-true, cases_lt, eqb-true}
use Rattle.model_core.specs.EventGraph.{EventGraph}
use Rattle.model_core.specs.Rules.Conditions.{first_failed}
use Rattle.model_core.specs.Rules.Fuse.{fuse_conditions, are_twins}
use Rattle.model_core.proofs.BothTrue.{and_first, and_second}
use Rattle.model_core.proofs.Among.{either_true}
use Rattle.twin_rules.proofs.AlikeByTests.{mapped-none}
use Rattle.twin_rules.proofs.NextPlaces.{last-or-before, first-or-after}
use Rattle.twin_rules.proofs.PairsStillApart.{are_alike-alike}
use Rattle.twin_rules.specs.Inner.ComparedPairs.{are_alike, NoneAlikeBefore, NoneAlikeWith}

-- where one of the first conditions fails, one of all fails
first-fail : (n : ℕ) (cs : List Bool) → is_none (first_failed (take n cs)) ≡ false → false ≡ is_none (first_failed cs)
first-fail zero cs e = cc
first-fail (suc n) [] e = cc
first-fail (suc n) (true ∷ cs) e = first-fail n cs (sym (mapped-none (first_failed (take n cs))) ∙ e) ∙ sym (mapped-none (first_failed cs))
first-fail (suc n) (false ∷ cs) e = refl

-- vertices that aren't alike may not be fused
pub no-twins : (g : EventGraph) (keep gone : ℕ) → are_alike g keep gone ≡ false → false ≡ are_twins g keep gone
no-twins g keep gone fails = first-fail 5 (fuse_conditions g keep gone) fails

-- a vertex isn't alike with one that doesn't come after it
not_alike-up_to : (g : EventGraph) (keep gone : ℕ) → gone ≤ keep → are_alike g keep gone ≡ false
not_alike-up_to g keep gone up_to =
    let out : nat_lt keep gone ≡ false = grind (arith, nat_tests) in
    ap (λ b. is_none (if (b && nat_lt gone (length g.vertices)) then option_map suc (first_failed (drop 1 (take 5 (fuse_conditions g keep gone)))) else Some 1)) out

pub none_alike-up_to : (g : EventGraph) (keep y : ℕ) → y < keep + 1 → are_alike g keep y ≡ false
none_alike-up_to g keep y less = not_alike-up_to g keep y (omega (arith, less))

pub none_alike-one_more : (g : EventGraph) (keep gone : ℕ) → ((y : ℕ) → y < gone → are_alike g keep y ≡ false) → are_alike g keep gone ≡ false → (y : ℕ) → y < gone + 1 → are_alike g keep y ≡ false
none_alike-one_more g keep gone none here y less = by (last-or-before y gone less) where
  by : (y < gone) ⊎ (y ≡ gone) → are_alike g keep y ≡ false
  by (inl before) = none y before
  by (inr same) = ap (are_alike g keep) same ∙ here

-- those from a place on that are passed over, one more, and those after it
pub passed-on : (g : EventGraph) (keep from place to : ℕ) → ((y : ℕ) → from ≤ y → y < place → are_alike g keep y ≡ false) → are_alike g keep place ≡ false → ((y : ℕ) → place + 1 ≤ y → y < to → are_alike g keep y ≡ false) → (y : ℕ) → from ≤ y → y < to → are_alike g keep y ≡ false
passed-on g keep from place to none here more y at less = by (cases_lt y place) where
  up_to : (y ≡ place) ⊎ (place + 1 ≤ y) → are_alike g keep y ≡ false
  up_to (inl same) = ap (are_alike g keep) same ∙ here
  up_to (inr later) = more y later less

  by : (y < place) ⊎ (place ≤ y) → are_alike g keep y ≡ false
  by (inl before) = none y at before
  by (inr from_here) = up_to (first-or-after place y from_here)

pub none_alike-until : (g : EventGraph) (keep from to : ℕ) → ((y : ℕ) → y < from → are_alike g keep y ≡ false) → ((y : ℕ) → from ≤ y → y < to → are_alike g keep y ≡ false) → (y : ℕ) → y < to → are_alike g keep y ≡ false
none_alike-until g keep from to none more y less = by (cases_lt y from) where
  by : (y < from) ⊎ (from ≤ y) → are_alike g keep y ≡ false
  by (inl before) = none y before
  by (inr at) = more y at less

beyond-all : (g : EventGraph) (keep y : ℕ) → length g.vertices ≤ y → are_alike g keep y ≡ false
beyond-all g keep y past = by (are_alike g keep y) refl where
  by : (b : Bool) → are_alike g keep y ≡ b → b ≡ false
  by false are = refl
  by true are = let less = (are_alike-alike g keep y are).within in absurd (omega (arith, less, past))

pub none-at-all : (g : EventGraph) (keep from : ℕ) → length g.vertices ≤ from → ((y : ℕ) → y < from → are_alike g keep y ≡ false) → NoneAlikeWith g keep None
none-at-all g keep from past none y = by (cases_lt y from) where
  by : (y < from) ⊎ (from ≤ y) → are_alike g keep y ≡ false
  by (inl before) = none y before
  by (inr at) = beyond-all g keep y (omega (arith, past, at))

pub one-more-row : (g : EventGraph) (keep : ℕ) → ((x y : ℕ) → x < keep → are_alike g x y ≡ false) → NoneAlikeWith g keep None → (x y : ℕ) → x < keep + 1 → are_alike g x y ≡ false
one-more-row g keep none here x y less = by (last-or-before x keep less) where
  by : (x < keep) ⊎ (x ≡ keep) → are_alike g x y ≡ false
  by (inl before) = none x y before
  by (inr same) = ap (λ x. are_alike g x y) same ∙ here y

pub none-before-here : (g : EventGraph) (keep gone : ℕ) → ((x y : ℕ) → x < keep → are_alike g x y ≡ false) → NoneAlikeWith g keep (Some gone) → NoneAlikeBefore g (Some (keep, gone))
none-before-here g keep gone none here x y are = by (either_true (nat_lt x keep) _ are) where
  by : (nat_lt x keep ≡ true) ⊎ (((x == keep) && nat_lt y gone) ≡ true) → are_alike g x y ≡ false
  by (inl less) = none x y (ltb-true x keep less)
  by (inr both) = ap (λ x. are_alike g x y) (eqb-true x keep (and_first (x == keep) _ both)) ∙ here y (ltb-true y gone (and_second (x == keep) _ both))
