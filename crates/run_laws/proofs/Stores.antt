-- A loop that stores each value at its place.
use Rattle.std.proofs.Common.{◌≡◌, ℕ, ◌+◌, ◌<◌, ◌≤◌, ℤ, pos, List, [], ◌∷◌, length, get_or, drop, zip, min, Ok, Err, sym, ap, ◌∙◌, arith}
use Rattle.std.proofs.lemmas.List.{drop_more, drop_all}
use Rattle.std.proofs.lemmas.Slice.Zip.{get_or-zip, length-zip}
use Rattle.sig_base.specs.declared.fault.FaultKind.{FaultKind}
use Rattle.model_core.specs.EventGraph.{EventGraph}
use Rattle.model_core.specs.Run.State.{State, Place}
use Rattle.model_core.specs.Run.Value.{in_turn}
use Rattle.model_core.specs.Run.Changes.{store}
use Rattle.model_core.specs.Run.LeftByFaults.{left_by_stores}
use Rattle.run_laws.proofs.MadeSoFar.{MadeSoFar, Faults, made_more, made_fault}

module _ (g : EventGraph) (places : List Place) (values : List ℤ) (first : State) where
  -- the first so many stores were made
  abbrev pub Stored : ℕ → State → Type 0
  Stored i s = MadeSoFar (store g) (λ p t. t) (zip places values) first (drop i (zip places values)) s

  pair-next : (i : ℕ) (p : Place) → i < length places → i < length values → p ≡ get_or places i p → drop i (zip places values) ≡ (p, get_or values i (pos 0)) ∷ drop (i + 1) (zip places values)
  pair-next i p below beside is =
      drop_more (zip places values) i (p, pos 0) (omega (arith, length-zip places values, beside, below))
      ∙ ap (λ q. q ∷ drop (i + 1) (zip places values)) (get_or-zip places values i (p, pos 0) below beside ∙ ap (λ q. (q, get_or values i (pos 0))) (sym is))

  pub stored_more : (i : ℕ) (p : Place) (s t : State) → i < length places → i < length values → p ≡ get_or places i p → store g (p, get_or values i (pos 0)) s ≡ Ok t → Stored i s → Stored (i + 1) t
  stored_more i p s t below beside is ok h =
      made_more (store g) (λ p t. t) (zip places values) first (drop i (zip places values)) (drop (i + 1) (zip places values)) (p, get_or values i (pos 0)) s t (pair-next i p below beside is) ok h

  pub stored_fault : (i : ℕ) (p : Place) (s : State) (k : FaultKind) → i < length places → i < length values → p ≡ get_or places i p → store g (p, get_or values i (pos 0)) s ≡ Err k → Stored i s → Faults (store g) (λ p t. t) (zip places values) first k s
  stored_fault i p s k below beside is fault h =
      made_fault (store g) (λ p t. t) (zip places values) first (drop i (zip places values)) (drop (i + 1) (zip places values)) (p, get_or values i (pos 0)) s k (pair-next i p below beside is) fault h

  -- nothing remains to be stored
  pub stored_all : (i : ℕ) (s : State) → min (length places) (length values) ≤ i → Stored i s → (in_turn (store g) (zip places values) first ≡ Ok s) × (left_by_stores g (zip places values) first ≡ s)
  stored_all i s over h =
      let none : drop i (zip places values) ≡ [] = drop_all i (zip places values) (omega (arith, length-zip places values, over)) in
      let done = rw none at h in
      (sym done.makes, sym done.leaves)
