-- How many steps are made from a moment: those that led to another one, and those from there.
use Rattle.std.proofs.Common.{◌≡◌, ℕ, zero, suc, ◌+◌, ◌-◌, ◌<◌, ◌≤◌, List, [], Option, Some, None, refl, ap, arith}
use Rattle.std.specs.Prelude.{option_map}
use Rattle.model_core.specs.Run.Machine.{Note, RunStatus, Move, Rests, Fails, Goes, Reached, reached_after_notes, onward, reached}
use Rattle.trial_report.specs.StepsMade.{steps_from, steps_made}

module _ {S : Type 0} (move : S → Move S) where
  one-more : (k j : ℕ) (here : Reached S) → ((t : S) (q : Reached S) → reached move k t ≡ Some q → steps_made move j t ≡ k + steps_made move (j - k) q.moment)
      → (v : Move S) → onward (reached move k) v ≡ Some here → steps_from (steps_made move j) v ≡ suc k + steps_made move (suc j - suc k) here.moment
  one-more k j here more (Rests notes end) e = cc
  one-more k j here more (Fails notes end) e = cc
  one-more k j here more (Goes notes t) e = from_next (reached move k t) refl e
    where
      from_next : (o : Option (Reached S)) → reached move k t ≡ o → option_map (reached_after_notes notes) o ≡ Some here → suc (steps_made move j t) ≡ suc k + steps_made move (suc j - suc k) here.moment
      from_next None there e = cc
      from_next (Some q) there e =
          let same : reached_after_notes notes q ≡ here = cc in
          let left : j - k ≡ suc j - suc k = omega arith in
          let those = more t q there in
          let rest : steps_made move (j - k) q.moment ≡ steps_made move (suc j - suc k) here.moment = λ i. steps_made move (left i) (same i).moment in
          omega (arith, those, rest)

  pub from_there : (k n : ℕ) (s : S) (here : Reached S) → reached move k s ≡ Some here → k ≤ n → steps_made move n s ≡ k + steps_made move (n - k) here.moment
  from_there zero n s here e le =
      let all : n ≡ n - 0 = omega arith in
      let there : record { notes = []; moment = s } ≡ here = cc in
      let same : steps_made move n s ≡ steps_made move (n - 0) here.moment = λ i. steps_made move (all i) (there i).moment in
      omega (arith, same)
  from_there (suc k) zero s here e le = absurd (omega (arith, le))
  from_there (suc k) (suc j) s here e le = one-more k j here (λ t q there. from_there k j t q there (omega (arith, le))) (move s) e

  -- none is made where the machine rests
  pub none_at_rest : (n : ℕ) (s : S) (notes : List Note) (end : RunStatus) → move s ≡ Rests notes end → steps_made move n s ≡ 0
  none_at_rest zero s notes end e = refl
  none_at_rest (suc n) s notes end e = ap (steps_from (steps_made move n)) e

  -- one is where it fails
  pub one_at_fault : (n : ℕ) (s : S) (notes : List Note) (end : RunStatus) → 0 < n → move s ≡ Fails notes end → steps_made move n s ≡ 1
  one_at_fault zero s notes end some e = absurd (omega (arith, some))
  one_at_fault (suc n) s notes end some e = ap (steps_from (steps_made move n)) e
