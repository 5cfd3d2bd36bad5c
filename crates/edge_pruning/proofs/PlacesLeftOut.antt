-- Marks of all places but some, made by taking one mark away after the other.
use Rattle.std.proofs.Common.{◌≡◌, ℕ, zero, suc, ◌+◌, ◌==◌, Bool, true, false, not, ◌||◌, ◌<◌, cond, List, [], ◌∷◌, ◌++◌, map, take, get_or, length, refl, sym, ap, arith, ◌∙◌}
use Rattle.std.specs.Prelude.{replicate}
use Rattle.std.specs.List.{list_any, range_with_len}
use Rattle.std.proofs.lemmas.List.{take_more}
use Rattle.model_core.specs.Rules.PlacedEdges.{with_place}
use Rattle.model_core.specs.Rules.Drop.{staying_marks}
use Rattle.model_core.proofs.PlacesChanged.{same_on_range, place-mapped}

pub none-left-out : (n : ℕ) → replicate n true ≡ staying_marks [] n
none-left-out n = from 0 n where
  from : (a n : ℕ) → replicate n true ≡ map (λ k. true) (range_with_len a n)
  from a zero = refl
  from a (suc n) = ap (λ bs. true ∷ bs) (from (a + 1) n)

none-or : (b : Bool) → cond b false true ≡ not (b || false)
none-or true = refl
none-or false = refl

none-beside : (b x y z : Bool) → cond b false (not y) ≡ not z → cond b false (not (x || y)) ≡ not (x || z)
none-beside true true y z e = refl
none-beside false true y z e = refl
none-beside b false y z e = e

one-more : (v j : ℕ) (vs : List ℕ) → cond (v == j) false (not (list_any (λ w. w == j) vs)) ≡ not (list_any (λ w. w == j) (vs ++ v ∷ []))
one-more v j [] = none-or (v == j)
one-more v j (w ∷ vs) = none-beside (v == j) (w == j) (list_any (λ w. w == j) vs) (list_any (λ w. w == j) (vs ++ v ∷ [])) (one-more v j vs)

pub one-more-left-out : (vs : List ℕ) (v n : ℕ) → with_place (λ mark. false) v (staying_marks vs n) ≡ staying_marks (vs ++ v ∷ []) n
one-more-left-out vs v n =
    place-mapped (λ mark. false) (λ k. not (list_any (λ w. w == k) vs)) v v 0 n (omega arith)
    ∙ same_on_range (λ j. cond (v == j) false (not (list_any (λ w. w == j) vs))) (λ j. not (list_any (λ w. w == j) (vs ++ v ∷ []))) 0 n (λ j from. one-more v j vs)

-- the first ones are left out, and then one more
pub next-left-out : (gone : List ℕ) (i d n : ℕ) (marks new : List Bool) → i < length gone → new ≡ with_place (λ mark. false) (get_or gone i d) marks → marks ≡ staying_marks (take i gone) n → new ≡ staying_marks (take (i + 1) gone) n
next-left-out gone i d n marks new below is so_far =
    is ∙ ap (with_place (λ mark. false) (get_or gone i d)) so_far ∙ one-more-left-out (take i gone) (get_or gone i d) n ∙ ap (λ (vs : List ℕ). staying_marks vs n) (sym (take_more gone i d below))
