-- What holds of the variables that parameters and targets name holds of the places in which values are stored.
use Rattle.std.proofs.Common.{◌≡◌, ℕ, ℤ, List, [], ◌∷◌, map, zip, Ok, sym, subst}
use Rattle.std.specs.List.{AllByRecursion}
use Rattle.model_core.specs.EventGraph.{EventGraph, Location}
use Rattle.model_core.specs.Run.State.{State, Place, scalar}
use Rattle.model_core.specs.Run.Value.{each, place_of}
use Rattle.model_core.proofs.Results.{bind_ok}
use Rattle.run_laws.proofs.PlaceVariables.{place-variable}

module _ (P : ℕ → Type 0) where
  -- it holds of the variable of each place
  abbrev pub OfPlaces : List Place → Type 0
  OfPlaces ps = AllByRecursion (λ (p : Place). P p.variable) ps

  -- and of each place with the value that it takes
  abbrev pub OfStores : List (Place × ℤ) → Type 0
  OfStores stores = AllByRecursion (λ (px : Place × ℤ). P px.0.variable) stores

  pub stores-named : (ps : List Place) (xs : List ℤ) → OfPlaces ps → OfStores (zip ps xs)
  stores-named [] xs all = tt
  stores-named (p ∷ ps) [] all = tt
  stores-named (p ∷ ps) (x ∷ xs) (now, all) = (now, stores-named ps xs all)

  pub parameters-named : (vs : List ℕ) → AllByRecursion P vs → OfPlaces (map scalar vs)
  parameters-named [] all = tt
  parameters-named (v ∷ vs) (now, all) = (now, parameters-named vs all)

  pub targets-named : (g : EventGraph) (s : State) (clk : ℕ) (ls : List Location) (ps : List Place) → AllByRecursion (λ (l : Location). P l.variable) ls → each (place_of g s clk) ls ≡ Ok ps → OfPlaces ps
  targets-named g s clk [] ps all done = let same : [] ≡ ps = cc in subst OfPlaces same tt
  targets-named g s clk (l ∷ ls) ps (now, all) done =
      let (q, first, later) = bind_ok (place_of g s clk l) _ ps done in
      let (qs, others, end) = bind_ok (each (place_of g s clk) ls) (λ qs. Ok (q ∷ qs)) ps later in
      let same : q ∷ qs ≡ ps = cc in
      subst OfPlaces same (subst P (sym (place-variable g s clk l.variable l.index q first)) now, targets-named g s clk ls qs all others)
