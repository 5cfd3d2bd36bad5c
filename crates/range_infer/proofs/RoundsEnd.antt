-- The rounds end: after the first sixteen each one moves an end to its declared end, or changes nothing.
use Rattle.std.proofs.Common.{◌≡◌, ◌⊎◌, inl, inr, ℕ, zero, suc, ◌+◌, ◌*◌, ◌<◌, ◌≤◌, nat_le, Bool, true, false, List, [], ◌∷◌, length, slice_index_or, refl, subst, arith}
use Rattle.std.specs.List.{AllByRecursion}
use Rattle.std.proofs.lemmas.Bool.Decides.{nat_tests}
use Rattle.model_core.specs.EventGraph.{EventGraph, Variable}
use Rattle.model_core.specs.Run.State.{no_variable}
use Rattle.model_core.specs.Static.OwnRules.{KeepsVariable, KeepsParts}
use Rattle.model_core.specs.declared.var_range.VarRange.{VarRange}
use Rattle.model_core.specs.Ranges.Inductive.{Fitting, Inductive}
use Rattle.model_core.specs.Ranges.Inference.{round, after_rounds, IsInferred}
use Rattle.range_infer.proofs.OneRound.{Growing, round-growing, first-growing, stays-inductive}
use Rattle.range_infer.proofs.OpenEnds.{open_ends, at_most_two_each, Fewer, round-fewer}

kept_at : (vs : List Variable) → AllByRecursion KeepsVariable vs → (k : ℕ) → k < length vs → KeepsVariable (slice_index_or vs k no_variable)
kept_at [] all k small = absurd (omega arith)
kept_at (v ∷ vs) all zero small = all.0
kept_at (v ∷ vs) all (suc k) small = kept_at vs all.1 k (omega arith)

module _ (g : EventGraph) (keeps : KeepsParts g) where
  pub growing_after : (k : ℕ) → Growing g (after_rounds g k)
  growing_after zero = first-growing g (kept_at g.variables keeps.variables)
  growing_after (suc k) = round-growing g (after_rounds g k) (growing_after k) (suc k)

  -- how many rounds were made, with the open ends that are left
  abbrev pub Bounded : ℕ → List VarRange → Type 0
  Bounded k ranges = k + open_ends g.variables ranges ≤ 16 + 2 * length g.variables

  -- one more round, which changed something
  pub bounded_more : (k : ℕ) (ranges : List VarRange) → Growing g ranges → Bounded k ranges → (round g (suc k) ranges ≡ ranges → ⊥) → Bounded (suc k) (round g (suc k) ranges)
  bounded_more k ranges growing bounded changes = by (nat_le 17 (suc k)) refl (round-fewer g ranges growing (suc k)) where
    next : List VarRange
    next = round g (suc k) ranges

    by : (late : Bool) → nat_le 17 (suc k) ≡ late → Fewer late g.variables ranges next → Bounded (suc k) next
    by false early fewer =
        let soon : suc k < 17 = grind (arith, nat_tests) in
        omega (arith, soon, at_most_two_each g.variables next)
    by true late fewer = chosen (fewer.fewer refl) where
      chosen : (next ≡ ranges) ⊎ (open_ends g.variables next < open_ends g.variables ranges) → Bounded (suc k) next
      chosen (inl same) = absurd (changes same)
      chosen (inr less) = omega (arith, bounded, less)

  pub few_rounds : (k : ℕ) (ranges : List VarRange) → Bounded k ranges → k < 4017
  few_rounds k ranges bounded = let few = keeps.few_variables in omega (arith, bounded, few)

  -- from the sixteenth round on
  found : (fuel k : ℕ) → k + fuel ≡ 17 + 2 * length g.variables → 16 ≤ k → Bounded k (after_rounds g k) → (ranges : List VarRange) × IsInferred g ranges
  found zero k left late bounded = absurd (omega (arith, left, bounded))
  found (suc fuel) k left late bounded = chosen (fewer.fewer is_late) (λ more. found fuel (suc k) (omega (arith, left)) (omega (arith, late)) more) where
    ranges : List VarRange
    ranges = after_rounds g k

    fewer : Fewer (nat_le 17 (suc k)) g.variables ranges (round g (suc k) ranges)
    fewer = round-fewer g ranges (growing_after k) (suc k)

    is_late : nat_le 17 (suc k) ≡ true
    is_late = grind (arith, nat_tests)

    chosen : (round g (suc k) ranges ≡ ranges) ⊎ (open_ends g.variables (round g (suc k) ranges) < open_ends g.variables ranges) → (Bounded (suc k) (round g (suc k) ranges) → (rs : List VarRange) × IsInferred g rs) → (rs : List VarRange) × IsInferred g rs
    chosen (inl same) more = (ranges, record { rounds = k; few = few_rounds k ranges bounded; reached = refl; stays = same })
    chosen (inr less) more = more (omega (arith, bounded, less))

  -- there are ranges that the rounds end with
  pub rounds_end : (ranges : List VarRange) × IsInferred g ranges
  rounds_end = found (1 + 2 * length g.variables) 16 (omega arith) (omega arith) (omega (arith, at_most_two_each g.variables (after_rounds g 16)))

  inferred_growing : (ranges : List VarRange) → IsInferred g ranges → Growing g ranges
  inferred_growing ranges is = subst (Growing g) is.reached (growing_after is.rounds)

  -- they fit, and are inductive
  pub inferred_fitting : (ranges : List VarRange) → IsInferred g ranges → Fitting g ranges
  inferred_fitting ranges is = (inferred_growing ranges is).fitting

  pub inferred_inductive : (ranges : List VarRange) → IsInferred g ranges → Inductive g ranges
  inferred_inductive ranges is = stays-inductive g ranges (inferred_growing ranges is) (suc is.rounds) is.stays
