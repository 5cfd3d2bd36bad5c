-- One turn of the search for ranges: one round more, or the end.
use Rattle.std.proofs.Common.{◌≡◌, ℕ, suc, ◌+◌, ◌*◌, ◌<◌, ◌≤◌, nat_le, Bool, List, length, sym, ◌∙◌, ap, ap₂, subst, arith}
use Rattle.std.proofs.lemmas.Bool.Decides.{nat_tests}
use Rattle.model_core.specs.EventGraph.{EventGraph}
use Rattle.model_core.specs.Static.OwnRules.{KeepsParts}
use Rattle.model_core.specs.declared.incoming.Incoming.{Incoming}
use Rattle.model_core.specs.declared.var_range.VarRange.{VarRange}
use Rattle.model_core.specs.Ranges.Incoming.{incoming}
use Rattle.model_core.specs.Ranges.Inference.{each_variable, next_range, round, after_rounds, IsInferred}
use Rattle.range_infer.specs.Inner.LookedAt.{TakesAgain}
use Rattle.range_infer.proofs.OneRound.{Growing, variables_given}
use Rattle.range_infer.proofs.OpenEnds.{open_ends, at_most_two_each}
use Rattle.range_infer.proofs.RoundsEnd.{growing_after, bounded_more, few_rounds}
use Rattle.range_infer.proofs.PassedOver.{SufficesFor, suffices_again}

-- the ranges after so many rounds, of which each late one changed something, and a list in place of all that is taken under them
pub record Turn (g : EventGraph) (rounds : ℕ) (ranges : List VarRange) (takes : List Incoming) : Type 0 where
  pub reached : ranges ≡ after_rounds g rounds
  pub suffices : SufficesFor g ranges takes
  pub bounded : rounds + open_ends g.variables ranges ≤ 16 + 2 * length g.variables

pub first_turn : (g : EventGraph) (ranges seen : List VarRange) (takes : List Incoming) → ranges ≡ after_rounds g 0 → seen ≡ ranges → takes ≡ incoming g seen → Turn g 0 ranges takes
first_turn g ranges seen takes first same taken = record {
  reached = first;
  suffices = λ late. ap (λ (is : List Incoming). each_variable g (next_range g late is ranges)) (taken ∙ ap (incoming g) same);
  bounded = omega (arith, at_most_two_each g.variables ranges);
}

module _ (g : EventGraph) (keeps : KeepsParts g) (rounds : ℕ) (ranges : List VarRange) (takes : List Incoming) (turn : Turn g rounds ranges takes) where
  growing : Growing g ranges
  growing = subst (Growing g) (sym turn.reached) (growing_after g keeps rounds)

  pub as_many : length ranges ≡ length g.variables
  as_many = growing.fitting.as_many

  pub few : rounds < 4017
  few = few_rounds g keeps rounds ranges turn.bounded

  -- what is made of ranges and of what is taken, which are seen under other names
  pub is_round : (late : Bool) (seen : List VarRange) (given : List Incoming) (next : List VarRange) → late ≡ nat_le 16 rounds → seen ≡ ranges → given ≡ takes → next ≡ each_variable g (next_range g late given seen) → next ≡ round g (suc rounds) ranges
  is_round late seen given next so same are made =
      let when : late ≡ nat_le 17 (suc rounds) = so ∙ (let one : nat_le 16 rounds ≡ nat_le 17 (suc rounds) = grind (arith, nat_tests) in one) in
      made ∙ (ap₂ (λ (is : List Incoming) (rs : List VarRange). each_variable g (next_range g late is rs)) are same ∙
      (turn.suffices late ∙ ap (λ (late : Bool). each_variable g (next_range g late (incoming g ranges) ranges)) when))

  module _ (next : List VarRange) (made : next ≡ round g (suc rounds) ranges) where
    pub many_next : length next ≡ length g.variables
    many_next = ap length made ∙ variables_given g (next_range g (nat_le 17 (suc rounds)) (incoming g ranges) ranges)

    pub inferred : next ≡ ranges → IsInferred g ranges
    inferred stays = record { rounds = rounds; few = few; reached = sym turn.reached; stays = sym made ∙ stays }

    pub next_turn : (next ≡ ranges → ⊥) → (old new : List VarRange) (again : List Incoming) → old ≡ ranges → new ≡ next → TakesAgain g old new again → Turn g (rounds + 1) next again
    next_turn changes old new again o n taken =
        let more = bounded_more g keeps rounds ranges growing turn.bounded (λ stays. changes (made ∙ stays)) in
        let ends : open_ends g.variables next ≡ open_ends g.variables (round g (suc rounds) ranges) = ap (open_ends g.variables) made in
        record {
          reached = made ∙ (ap (round g (suc rounds)) turn.reached ∙ ap (after_rounds g) (let one : suc rounds ≡ rounds + 1 = omega arith in one));
          suffices = suffices_again g ranges next growing (suc rounds) made again (subst (λ (rs : List VarRange). TakesAgain g rs next again) o (subst (λ (rs : List VarRange). TakesAgain g old rs again) n taken));
          bounded = omega (arith, more, ends);
        }
