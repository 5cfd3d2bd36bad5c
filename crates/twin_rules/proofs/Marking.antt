-- Marks that are written over one another in one walk, each taken from its own place or the next one.
use Rattle.std.proofs.Common.{◌≡◌, ◌⊎◌, inl, inr, ℕ, zero, suc, ◌+◌, ◌<◌, ◌≤◌, nat_lt, Bool, true, false, ◌||◌, cond, List, [], ◌∷◌, length, refl, sym, ◌∙◌, ap, arith}
use Rattle.std.proofs.Math.ListN.{set}
use Rattle.std.proofs.lemmas.List.{length-set, get_or-set_same, get_or-set_other}
use Rattle.std.proofs.lemmas.Bool.{cases_lt}
use Rattle.twin_rules.specs.Inner.ComparedPairs.{has_changed, place_before}
use Rattle.twin_rules.proofs.NextPlaces.{last-or-before}

pub or-false : (a : Bool) → a ≡ (a || false)
or-false true = refl
or-false false = refl

pub record MarkedSoFar (more : ℕ → Bool) (gone : ℕ) (old now : List Bool) (place : ℕ) : Type 0 where
  pub long : length now ≡ length old
  pub done : (k : ℕ) → k < place → has_changed now k ≡ (has_changed old (place_before gone k) || more (place_before gone k))
  pub left : (k : ℕ) → place ≤ k → has_changed now k ≡ has_changed old k

pub nothing-marked : (more : ℕ → Bool) (gone : ℕ) (old : List Bool) → MarkedSoFar more gone old old 0
nothing-marked more gone old = record { long = refl; done = λ k less. absurd (omega (arith, less)); left = λ k at. refl }

at_or_after : (gone k : ℕ) → k ≤ place_before gone k
at_or_after gone k = by (nat_lt k gone) where
  by : (b : Bool) → k ≤ cond b k (k + 1)
  by true = omega arith
  by false = omega arith

pub one-more-marked : (more : ℕ → Bool) (gone : ℕ) (old now : List Bool) (place : ℕ) (b : Bool) → place < length now → b ≡ (has_changed now (place_before gone place) || more (place_before gone place)) → MarkedSoFar more gone old now place → MarkedSoFar more gone old (set now place b) (place + 1)
one-more-marked more gone old now place b below is so_far = record {
  long = length-set now place b ∙ so_far.long;
  done = λ k less. by k (last-or-before k place less);
  left = λ k at. get_or-set_other now place k b true (omega (arith, at)) ∙ so_far.left k (omega (arith, at));
} where
  by : (k : ℕ) → (k < place) ⊎ (k ≡ place) → has_changed (set now place b) k ≡ (has_changed old (place_before gone k) || more (place_before gone k))
  by k (inl less) = get_or-set_other now place k b true (omega (arith, less)) ∙ so_far.done k less
  by k (inr same) =
      ap (has_changed (set now place b)) same
      ∙ (get_or-set_same now place b true below
      ∙ (is
      ∙ (ap (λ c. c || more (place_before gone place)) (so_far.left (place_before gone place) (at_or_after gone place))
      ∙ ap (λ k. has_changed old (place_before gone k) || more (place_before gone k)) (sym same))))

beyond : (marks : List Bool) (k : ℕ) → length marks ≤ k → has_changed marks k ≡ true
beyond [] k at = refl
beyond (b ∷ marks) zero at = absurd (omega (arith, at))
beyond (b ∷ marks) (suc k) at = beyond marks k (omega (arith, at))

-- all are marked in the end
pub all-marked : (more : ℕ → Bool) (gone : ℕ) (old now : List Bool) (place : ℕ) → length old ≤ place → MarkedSoFar more gone old now place → (k : ℕ) → has_changed now k ≡ (has_changed old (place_before gone k) || more (place_before gone k))
all-marked more gone old now place past so_far k = by (cases_lt k place) where
  by : (k < place) ⊎ (place ≤ k) → has_changed now k ≡ (has_changed old (place_before gone k) || more (place_before gone k))
  by (inl less) = so_far.done k less
  by (inr at) =
      let after_it = at_or_after gone k in
      so_far.left k at ∙ (beyond old k (omega (arith, past, at)) ∙ ap (λ b. b || more (place_before gone k)) (sym (beyond old (place_before gone k) (omega (arith, past, at, after_it)))))
