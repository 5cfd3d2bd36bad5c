-- Changes are the same in a model and in one with narrower ranges, in each state within these.
use Rattle.std.proofs.Common.{◌≡◌, ℕ, ◌≤◌, ◌^◌, ℤ, IsTrue, List, [], ◌∷◌, map, zip, length, Ok, refl, sym, ◌∙◌, ap, ap₂, subst}
use Rattle.std.specs.List.{AllByRecursion}
use Rattle.sig_base.specs.Stream.{word}
use Rattle.model_core.specs.declared.model.Kind.{Kind}
use Rattle.model_core.specs.EventGraph.{EventGraph, Expression, Location, StateChange, Set, Draw}
use Rattle.model_core.specs.Run.State.{State, Place, in_range}
use Rattle.model_core.specs.Run.Value.{OrFault, ◌>>=◌, each, in_turn, value_of, place_of}
use Rattle.model_core.specs.Run.Changes.{ChangeState, store, set_all, taken_from, drawn_value, one_more, make_change}
use Rattle.model_core.specs.Static.HasKind.{HasKind}
use Rattle.model_core.specs.Static.OwnRules.{KeepsChange, KeepsParts, parameters_of}
use Rattle.model_core.specs.Rules.BoundsOf.{bounds_under}
use Rattle.model_core.specs.Rules.BoundsOfParts.{choice_bounds}
use Rattle.model_core.specs.Rules.BoundsHold.{NumberIn}
use Rattle.model_core.proofs.Results.{bind_ok, bind_same}
use Rattle.run_laws.proofs.PlaceVariables.{place-variable}
use Rattle.bound_laws.proofs.Soundness.DrawnValues.{word_small, choice_in}
use Rattle.model_core.specs.declared.var_range.VarRange.{VarRange}
use Rattle.model_core.specs.Ranges.OtherRanges.{model_with_ranges}
use Rattle.model_core.specs.Ranges.Refined.{refined}
use Rattle.model_core.specs.Ranges.Incoming.{assigned, into_change}
use Rattle.model_core.specs.Ranges.Inductive.{Fitting, HoldsIncoming}
use Rattle.range_infer.proofs.ModelWithRanges.{has_kind, same_value, same_place}
use Rattle.bound_laws.proofs.Soundness.DeclaredRanges.{declared_alike, declared_hold}
use Rattle.range_infer.proofs.BoundsInHold.{between}
use Rattle.range_infer.proofs.NarrowModels.{truths_redeclared, ChangeInRanges}
use Rattle.range_infer.proofs.SameStores.{StoreFits, same_store, same_stores, in_bounds_fits, values_fit}

module _ (g : EventGraph) (ranges : List VarRange) (fitting : Fitting g ranges) (keeps : KeepsParts g) where
  abbrev h : EventGraph
  h = model_with_ranges g ranges

  module _ (s : State) (inside : IsTrue (in_range h s)) (clk : ℕ) (early : clk ≤ 2 ^ 48) where
    -- values of the model's expressions lie in their bounds under the ranges
    pub values_between : (e : Expression) (k : Kind) (x : ℤ) → HasKind g.variables e k → value_of g s clk e ≡ Ok x → NumberIn (bounds_under refined h.variables e) x
    values_between e k x is done =
        let truths = truths_redeclared g ranges keeps.variables fitting in
        between h truths s inside clk early e k h.variables x (has_kind g.variables ranges e k is) (declared_alike h) (declared_hold h s inside truths) (sym (same_value g ranges s clk e) ∙ done)

    places_named : (targets : List Location) (places : List Place) → each (place_of g s clk) targets ≡ Ok places → map (λ (l : Location). l.variable) targets ≡ map (λ (p : Place). p.variable) places
    places_named [] [] done = refl
    places_named [] (p ∷ places) done = cc
    places_named (l ∷ targets) places done =
        let (p, first, later) = bind_ok (place_of g s clk l) _ places done in
        let (ps, rest, end) = bind_ok (each (place_of g s clk) targets) _ places later in
        let same : p ∷ ps ≡ places = cc in
        ap₂ (λ (n : ℕ) (ns : List ℕ). n ∷ ns) (sym (place-variable g s clk l.variable l.index p first)) (places_named targets ps rest) ∙ ap (λ (ps : List Place). map (λ (p : Place). p.variable) ps) same

    same_set : (targets : List Location) (rights : List Expression) → KeepsChange g.variables (length g.tables) (parameters_of g) (Set targets rights) → AllByRecursion (HoldsIncoming g ranges) (into_change g h.variables (Set targets rights)) → set_all g clk targets rights s ≡ set_all h clk targets rights s
    same_set targets rights k takes =
        bind_same (each (value_of g s clk) rights) _ _ (λ values at_values.
        bind_same (each (place_of g s clk) targets) _ _ (λ places at_places.
        same_stores g ranges fitting (zip places values)
        (values_fit g ranges fitting s clk h.variables values_between places rights k.1.kinds values k.1.given at_values
        (subst (λ (vs : List ℕ). AllByRecursion (HoldsIncoming g ranges) (assigned h.variables vs rights)) (places_named targets places at_places) takes)) s)) ∙
        ap₂ (λ (value : Expression → OrFault ℤ) (place : Location → OrFault Place). each value rights >>= λ values. each place targets >>= λ places. in_turn (store h) (zip places values) s) (λ i e. same_value g ranges s clk e i) (λ i l. same_place g ranges s clk l.variable l.index i)

  pub same_change : (seed clk : ℕ) → clk ≤ 2 ^ 48 → (c : StateChange) (d : ChangeState) → IsTrue (in_range h d.state) → ChangeInRanges g ranges c → make_change g seed clk c d ≡ make_change h seed clk c d
  same_change seed clk early (Set targets rights) d inside in_ranges =
      ap (λ (r : OrFault State). r >>= λ s. Ok (record d { state = s })) (same_set d.state inside clk early targets rights in_ranges.keeps in_ranges.takes)
  same_change seed clk early (Draw target stream choice) d inside in_ranges =
      let w = word seed stream (taken_from d.taken stream) in
      let x = drawn_value g choice w in
      let drawn : NumberIn (choice_bounds g choice) x = choice_in g choice (length g.tables) (parameters_of g) w keeps.tables in_ranges.keeps.1.1 (word_small seed stream (taken_from d.taken stream)) in
      let next : OrFault State → OrFault ChangeState = λ r. r >>= λ s. Ok (record { state = s; taken = one_more d.taken stream }) in
      bind_same (place_of g d.state clk target) _ _ (λ p at_place.
      let named = place-variable g d.state clk target.variable target.index p at_place in
      let fits : StoreFits g ranges fitting (p, x) = in_bounds_fits g ranges fitting p (choice_bounds g choice) x drawn (subst (λ (v : ℕ). HoldsIncoming g ranges (record { variable = v; bounds = choice_bounds g choice })) (sym named) in_ranges.takes.0) in
      ap next (same_store g ranges fitting (p, x) d.state fits)) ∙
      ap (λ (r : OrFault Place). r >>= λ p. next (store h (p, x) d.state)) (same_place g ranges d.state clk target.variable target.index)
