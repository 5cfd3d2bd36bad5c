-- The value of an expression that reads none of the variables that are set stays.
use Rattle.std.proofs.Common.{◌≡◌, ℕ, ℤ, List, [], sym}
use Rattle.std.specs.List.{AllByRecursion}
use Rattle.model_core.specs.EventGraph.{EventGraph, Expression, Location}
use Rattle.model_core.specs.Run.State.{State}
use Rattle.model_core.specs.Run.Value.{each, value_of, place_of}
use Rattle.model_core.specs.Rules.Uses.{variables_in, location_reads}
use Rattle.model_core.proofs.EachOne.{every-map}
use Rattle.run_laws.proofs.Spared.SetPlaces.{sets, Spares, sets-spared}
use Rattle.run_laws.proofs.Spared.HeldValues.{Holds, value-held, values-held, location-held, locations-held}

module _ (g : EventGraph) (clk : ℕ) (us : List (ℕ × List ℤ)) (s : State) where
  abbrev AllSpared : List ℕ → Type 0
  AllSpared vs = AllByRecursion (Spares us) vs

  -- what is spared holds what it held
  pub held : (vs : List ℕ) → AllSpared vs → AllByRecursion (Holds s (sets us s)) vs
  held vs spared = every-map (Spares us) (Holds s (sets us s)) (λ v apart. sets-spared us s v [] apart) vs spared

  pub value-spared : (e : Expression) → AllSpared (variables_in e) → value_of g (sets us s) clk e ≡ value_of g s clk e
  value-spared e reads = sym (value-held g s (sets us s) clk e (held (variables_in e) reads))

  pub values-spared : (es : List Expression) → AllByRecursion (λ e. AllSpared (variables_in e)) es → each (value_of g (sets us s) clk) es ≡ each (value_of g s clk) es
  values-spared es reads = sym (values-held g s (sets us s) clk es (every-map _ _ (λ e spared. held (variables_in e) spared) es reads))

  pub location-spared : (l : Location) → AllSpared (location_reads l) → place_of g (sets us s) clk l ≡ place_of g s clk l
  location-spared l reads = sym (location-held g s (sets us s) clk l (held (location_reads l) reads))

  pub locations-spared : (ls : List Location) → AllByRecursion (λ l. AllSpared (location_reads l)) ls → each (place_of g (sets us s) clk) ls ≡ each (place_of g s clk) ls
  locations-spared ls reads = sym (locations-held g s (sets us s) clk ls (every-map _ _ (λ l spared. held (location_reads l) spared) ls reads))
