-- Edges that were put in order are ordered at each moment.
use Rattle.std.proofs.Common.{◌≡◌, ℕ, zero, suc, Bool, true, false, cond, List, [], ◌∷◌, ◌++◌, map, length, IsTrue, Option, Some, None, refl, sym, ap, ◌∙◌, subst, append_assoc}
use Rattle.std.proofs.lemmas.List.{map-append}
use Rattle.std.specs.List.{AllByRecursion}
use Rattle.tree_laws.specs.SumValues.{Valuation}
use Rattle.tree_laws.specs.Limits.{◌>>=◌}
use Rattle.tree_laws.specs.SumEnds.{Ground, Known}
use Rattle.tree_laws.specs.Meaning.{Meets, Holds}
use Rattle.tree_laws.proofs.Gives.{Gives, gives_some, then_gives, gives_weaker}
use Rattle.pair_laws.specs.EdgesNow.{effect_at}
use Rattle.pair_laws.specs.Exchanges.{EdgeEffect, Ordered, all_ordered, next}
use Rattle.event_laws.specs.EdgesMade.{EdgeTrees, edge_now}
use Rattle.event_laws.specs.EdgesTidied.{EdgePicked, all_may_change, least_of_two, edge_picked, ordered_within, edges_ordered}
use Rattle.event_laws.proofs.EdgesChange.{AllMayChange, all_may_change-now}

-- edges that are in order already
pub ordered_already : (ks : List EdgeEffect) → Ordered ks ks
ordered_already [] = all_ordered
ordered_already (k ∷ ks) = next [] k ks ks tt (ordered_already ks)

module _ (v : Valuation) (base : Ground) (meets : Meets base v) (k : Known) (h : Holds v k) (clk : ℕ) (less : EdgeTrees → EdgeTrees → Bool) where
  abbrev pub at_moment : List EdgeTrees → List EdgeEffect
  at_moment es = map (λ t. effect_at clk (edge_now v t)) es

  -- an edge of a list that may change places with all before it
  pub record IsPick (es : List EdgeTrees) (p : EdgePicked) : Type 0 where
    pub whole : p.front ++ p.edge ∷ p.back ≡ es
    pub free : AllMayChange v base meets k h clk p.front p.edge

  abbrev pub IsPickOf : List EdgeTrees → Option EdgePicked → Type 0
  IsPickOf es None = Unit {0}
  IsPickOf es (Some p) = IsPick es p

  least-picked : (es : List EdgeTrees) (p : EdgePicked) (o : Option EdgePicked) → IsPick es p → IsPickOf es o → IsPickOf es (least_of_two base k less p o)
  least-picked es p None is also = is
  least-picked es p (Some q) is also = by (less q.edge p.edge) where
    by : (b : Bool) → IsPickOf es (cond b (Some q) (Some p))
    by true = also
    by false = is

  pub edge_picked-is : (front es : List EdgeTrees) → Gives (edge_picked base k less front es) (IsPickOf (front ++ es))
  unfolding edge_picked
  edge_picked-is front [] = gives_some _ _ tt
  edge_picked-is front (e ∷ back) =
      let Q = IsPickOf (front ++ e ∷ back) in
      then_gives (λ m. m ≡ true → AllMayChange v base meets k h clk front e) Q (all_may_change base k front e) _ (all_may_change-now v base meets k h clk front e)
      (λ may free. then_gives Q Q (edge_picked base k less (front ++ e ∷ []) back) _ (gives_weaker Q _ (edge_picked-is (front ++ e ∷ []) back) (λ o is. subst (λ es. IsPickOf es o) (append_assoc front (e ∷ []) back) is))
      (λ later is. gives_some Q _ (by may free later is))) where
        by : (may : Bool) → (may ≡ true → AllMayChange v base meets k h clk front e) → (later : Option EdgePicked) → IsPickOf (front ++ e ∷ back) later → IsPickOf (front ++ e ∷ back) (cond may (least_of_two base k less (record { front = front; edge = e; back = back }) later) later)
        by true free later is = least-picked (front ++ e ∷ back) _ later (record { whole = refl; free = free refl }) is
        by false free later is = is

  pub ordered_within-is : (n : ℕ) (es : List EdgeTrees) → Gives (ordered_within base k less n es) (λ os. Ordered (at_moment es) (at_moment os))
  unfolding ordered_within
  ordered_within-is zero es = gives_some _ _ (ordered_already (at_moment es))
  ordered_within-is (suc n) es =
      then_gives (IsPickOf es) (λ os. Ordered (at_moment es) (at_moment os)) (edge_picked base k less [] es) _ (edge_picked-is [] es) (by (ordered_within-is n)) where
        by : ((es : List EdgeTrees) → Gives (ordered_within base k less n es) (λ os. Ordered (at_moment es) (at_moment os))) → (o : Option EdgePicked) → IsPickOf es o → Gives (elim o [ None ↦ Some es | Some p ↦ ordered_within base k less n (p.front ++ p.back) >>= λ rest. Some (p.edge ∷ rest) ]) (λ os. Ordered (at_moment es) (at_moment os))
        by deeper None is = gives_some _ _ (ordered_already (at_moment es))
        by deeper (Some p) is =
            then_gives (λ os. Ordered (at_moment (p.front ++ p.back)) (at_moment os)) (λ os. Ordered (at_moment es) (at_moment os)) (ordered_within base k less n (p.front ++ p.back)) _ (deeper (p.front ++ p.back))
            (λ rest ordered. gives_some _ _ (subst (λ ks. Ordered ks (at_moment (p.edge ∷ rest))) (sym (map-append _ p.front (p.edge ∷ p.back)) ∙ ap at_moment is.whole)
            (next (at_moment p.front) _ (at_moment p.back) (at_moment rest) is.free (subst (λ ks. Ordered ks (at_moment rest)) (map-append _ p.front p.back) ordered))))
