-- Quiet stores: where the bounds show that nothing faults, there are a value, a place and what is kept of the value.
use Rattle.std.proofs.Common.{◌≡◌, ℕ, slice_get, Some, ◌≤◌, ◌^◌, ℤ, true, false, ◌&&◌, Bool, IsTrue, List, [], ◌∷◌, map, zip, length, Ok, refl, sym, ap, ◌∙◌, subst, arith}
use Rattle.std.specs.List.{AllByRecursion, AllZip}
use Rattle.std.specs.Option.{option_map_or}
use Rattle.sig_base.proofs.Lists.{slice_index_or-all}
use Rattle.model_core.specs.declared.model.Kind.{Kind}
use Rattle.model_core.specs.EventGraph.{EventGraph, Expression, Location, StateChange, Set, Draw, EventVertex, EventEdge, EdgeKind, Schedule, Urgent, CancelNext, CancelEqual, CancelAll, scalar_location, delay_given}
use Rattle.model_core.specs.Run.State.{State, Place, variable_at, in_range, with_cell}
use Rattle.model_core.specs.Run.Value.{each, in_turn, value_of, place_of}
use Rattle.model_core.specs.Run.Changes.{ChangeState, kept, store, set_all, make_change}
use Rattle.model_core.specs.Run.Step.{no_vertex, vertex_at}
use Rattle.model_core.specs.Static.HasKind.{IsVariable, HasKind}
use Rattle.model_core.specs.Static.OwnRules.{IsLocationOfKind, CarriedFitKinds, KeepsChange, CarriesValues, KeepsEdge, KeepsVertex, parameters_of, KeepsParts}
use Rattle.model_core.specs.Rules.BoundsOfParts.{quiet_set, quiet_change}
use Rattle.model_core.specs.Rules.MarkedPlaces.{is_marked}
use Rattle.model_core.specs.Rules.Uses.{delay_streams}
use Rattle.mark_laws.proofs.Marks.{Marked}
use Rattle.model_core.proofs.Results.{bind_ok}
use Rattle.run_laws.proofs.InRange.{in_range-kept}
use Rattle.model_core.proofs.EachOne.{every-map}
use Rattle.model_core.proofs.Images.{image-there}
use Rattle.var_slicing.proofs.HeldByAll.{held-both}
use Rattle.var_slicing.proofs.ValuesLeft.{IsStored, ValuesFit}
use Rattle.var_slicing.proofs.ChangesLeft.{TargetFits, ChangeFits}
use Rattle.run_laws.proofs.PlaceVariables.{place-variable}
use Rattle.var_slicing.proofs.EdgesLeft.{KindFits, EdgeFits}
use Rattle.var_slicing.proofs.SlicedRuns.{VertexFits, MayGo}
use Rattle.var_slicing.proofs.NeedsClosed.{SetNeeds, ChangeNeeds, ParameterNeeds, CarriedNeed, KindNeeds, EdgeNeeds, DelayLives, NeedsHold}

-- a quiet change of a model that keeps its rules has no fault
abbrev pub QuietChanges : EventGraph → Type 0
QuietChanges g = (seed clk : ℕ) (c : StateChange) (d : ChangeState) → KeepsChange g.variables (length g.tables) (parameters_of g) c → IsTrue (in_range g d.state) → clk ≤ 2 ^ 48 → quiet_change g c ≡ true → (e : ChangeState) × (make_change g seed clk c d ≡ Ok e)

-- what a location takes of an expression
record StoresQuietly (g : EventGraph) (s : State) (clk : ℕ) (l : Location) (e : Expression) : Type 0 where
  has_value : IsStored g s clk l.variable e
  place : Place
  found : place_of g s clk l ≡ Ok place

and_true : (a : Bool) → a ≡ true → (a && true) ≡ true
and_true true e = refl
and_true false e = e

module _ (g : EventGraph) (quiet : QuietChanges g) (s : State) (inside : IsTrue (in_range g s)) (clk : ℕ) (early : clk ≤ 2 ^ 48) where
  abbrev Takes : Location → Kind → Type 0
  Takes = IsLocationOfKind g.variables (length g.tables) (parameters_of g)

  stores_quietly : (l : Location) (e : Expression) (k : Kind) → Takes l k → HasKind g.variables e k → quiet_set g l e ≡ true → StoresQuietly g s clk l e
  stores_quietly l e k takes has quietly =
      let d : ChangeState = record { state = s; taken = [] } in
      let (f, done) = quiet 0 clk (Set (l ∷ []) (e ∷ [])) d (omega arith, record { kinds = k ∷ []; taken = (takes, tt); given = (has, tt) }) inside early (and_true (quiet_set g l e) quietly) in
      let (t, is_set, at_end) = bind_ok (set_all g clk (l ∷ []) (e ∷ []) s) _ f done in
      let (values, at_values, after_values) = bind_ok (each (value_of g s clk) (e ∷ [])) _ t is_set in
      let (places, at_places, stored) = bind_ok (each (place_of g s clk) (l ∷ [])) _ t after_values in
      let (x, valued, values_so) = bind_ok (value_of g s clk e) _ values at_values in
      let (p, found, places_so) = bind_ok (place_of g s clk l) _ places at_places in
      let are : x ∷ [] ≡ values = cc in
      let they : p ∷ [] ≡ places = cc in
      let stores : in_turn (store g) ((p, x) ∷ []) s ≡ Ok t = ap (λ (xs : List ℤ). in_turn (store g) (zip (p ∷ []) xs) s) are ∙ ap (λ (ps : List Place). in_turn (store g) (zip ps values) s) they ∙ stored in
      let (u, first, rest) = bind_ok (store g (p, x) s) _ t stores in
      let (y, keeps, is_stored) = bind_ok (kept (variable_at g p.variable) x) (λ y. Ok (with_cell s p y)) u first in
      record {
        has_value = record { value = x; valued = valued; stored = y; keeps = subst (λ v. kept (variable_at g v) x ≡ Ok y) (place-variable g s clk l.variable l.index p found) keeps };
        place = p;
        found = found;
      }

  module _ (marks : List Bool) where
    set-fits : (targets : List Location) (rights : List Expression) (ks : List Kind) → AllZip Takes targets ks → AllZip (HasKind g.variables) rights ks → AllByRecursion (SetNeeds g marks) (zip targets rights) → AllByRecursion (TargetFits g marks s clk) targets × ValuesFit g marks s clk (map (λ (l : Location). l.variable) targets) rights
    set-fits [] [] ks taken given needs = (tt, tt)
    set-fits [] (e ∷ rights) [] taken given needs = absurd given
    set-fits [] (e ∷ rights) (k ∷ ks) taken given needs = absurd taken
    set-fits (l ∷ targets) [] [] taken given needs = absurd taken
    set-fits (l ∷ targets) [] (k ∷ ks) taken given needs = absurd given
    set-fits (l ∷ targets) (e ∷ rights) [] taken given needs = absurd taken
    set-fits (l ∷ targets) (e ∷ rights) (k ∷ ks) taken given needs =
        let (reads, quietly) = needs.0 in
        let rest = set-fits targets rights ks taken.1 given.1 needs.1 in
        let done : is_marked marks l.variable ≡ false → StoresQuietly g s clk l e = λ unmarked. stores_quietly l e k taken.0 given.0 (quietly unmarked) in
        ((((λ marked. (reads marked).0), λ unmarked. ((done unmarked).place, (done unmarked).found)), rest.0), ((λ marked. (reads marked).1), (λ unmarked. (done unmarked).has_value), rest.1))

    carried-fits : (vs : List ℕ) (es : List Expression) (ks : List Kind) → AllZip (λ v kind. IsVariable g.variables v false kind) vs ks → AllZip (HasKind g.variables) es ks → AllByRecursion (ParameterNeeds g marks) (zip vs es) → ValuesFit g marks s clk vs es
    carried-fits [] [] ks taken given needs = tt
    carried-fits [] (e ∷ es) [] taken given needs = absurd given
    carried-fits [] (e ∷ es) (k ∷ ks) taken given needs = absurd taken
    carried-fits (v ∷ vs) [] ks taken given needs = tt
    carried-fits (v ∷ vs) (e ∷ es) [] taken given needs = absurd taken
    carried-fits (v ∷ vs) (e ∷ es) (k ∷ ks) taken given needs =
        let (reads, quietly) = needs.0 in
        ((λ marked. (reads marked).1), (λ unmarked. (stores_quietly (scalar_location v) e k taken.0 given.0 (quietly unmarked)).has_value), carried-fits vs es ks taken.1 given.1 needs.1)

    fits-carried : (e : EventEdge) → CarriedFitKinds g.variables (length g.tables) (parameters_of g) (vertex_at g e.target).parameters e.values → CarriedNeed g marks e → ValuesFit g marks s clk (vertex_at g e.target).parameters e.values
    fits-carried e carried needs = carried-fits (vertex_at g e.target).parameters e.values carried.kinds carried.taken carried.given needs

    kind-fits : (live : List Bool) (e : EventEdge) (kind : EdgeKind) → AllByRecursion (Marked live) (option_map_or delay_streams (delay_given kind) []) → CarriesValues g.variables (length g.tables) (parameters_of g) kind (vertex_at g e.target).parameters e.values → KindNeeds g marks e kind → KindFits g marks live s clk e kind
    kind-fits live e (Schedule delay priority) lives carries needs = ((needs.0, lives), fits-carried e carries needs.1)
    kind-fits live e Urgent lives carries needs = fits-carried e carries needs
    kind-fits live e CancelNext lives carries needs = tt
    kind-fits live e CancelEqual lives carries needs = (needs.0, fits-carried e carries needs.1)
    kind-fits live e CancelAll lives carries needs = tt

-- what an edge's target takes are the parameters of the vertex there
pub takes-parameters : (g : EventGraph) (k : ℕ) (ps : List ℕ) → slice_get (parameters_of g) k ≡ Some ps → (vertex_at g k).parameters ≡ ps
takes-parameters g k ps there = image-there (λ (v : EventVertex). v.parameters) g.vertices k no_vertex ps there

module _ (g : EventGraph) (quiet : QuietChanges g) (keeps : KeepsParts g) (marks live : List Bool) (needs : NeedsHold g marks live) where
  abbrev Inside : State → Type 0
  Inside s = IsTrue (in_range g s)

  abbrev ChangeKeeps : StateChange → Type 0
  ChangeKeeps = KeepsChange g.variables (length g.tables) (parameters_of g)

  abbrev EdgeKeeps : EventEdge → Type 0
  EdgeKeeps = KeepsEdge g.variables (length g.tables) (parameters_of g)

  change-fits : (seed clk : ℕ) → clk ≤ 2 ^ 48 → (c : StateChange) → ChangeKeeps c × ChangeNeeds g marks live c → (d : ChangeState) → Inside d.state → ChangeFits g marks live seed clk d c
  change-fits seed clk early (Set targets rights) (rules, need) d inside = set-fits g quiet d.state inside clk early marks targets rights rules.1.kinds rules.1.taken rules.1.given need
  change-fits seed clk early (Draw target stream choice) (rules, need) d inside =
      (need.0, λ unmarked. let (dead, quietly) = need.1 unmarked in (dead, quiet seed clk (Draw target stream choice) d rules inside early quietly))

  edge-fits : (s : State) → Inside s → (clk : ℕ) → clk ≤ 2 ^ 48 → (e : EventEdge) → EdgeKeeps e × (EdgeNeeds g marks e × DelayLives live e) → EdgeFits g marks live s clk e
  edge-fits s inside clk early e (rules, (need, lives)) =
      (need.0, kind-fits g quiet s inside clk early marks live e e.kind lives (subst (λ ps. CarriesValues g.variables (length g.tables) (parameters_of g) e.kind ps e.values) (sym (takes-parameters g e.target rules.parameters rules.target)) rules.carries) need.1)

  abbrev KeptParts : EventVertex → Type 0
  KeptParts v = AllByRecursion ChangeKeeps v.changes × AllByRecursion EdgeKeeps v.edges

  kept_parts : (k : ℕ) → KeptParts (vertex_at g k)
  kept_parts k = slice_index_or-all KeptParts g.vertices no_vertex k (every-map (KeepsVertex g.variables (length g.tables) (parameters_of g)) KeptParts (λ v rules. (rules.changes, rules.edges)) g.vertices keeps.vertices) (tt, tt)

  abbrev ChangesNeed : EventVertex → Type 0
  ChangesNeed v = AllByRecursion (ChangeNeeds g marks live) v.changes

  abbrev EdgesNeed : EventVertex → Type 0
  EdgesNeed v = AllByRecursion (EdgeNeeds g marks) v.edges

  abbrev DelaysLive : EventVertex → Type 0
  DelaysLive v = AllByRecursion (DelayLives live) v.edges

  vertex-fits : (k : ℕ) → VertexFits g marks live Inside (vertex_at g k)
  vertex-fits k = record {
    changes = λ seed clk early. every-map (λ c. ChangeKeeps c × ChangeNeeds g marks live c) (λ c. (d : ChangeState) → Inside d.state → ChangeFits g marks live seed clk d c) (change-fits seed clk early) (vertex_at g k).changes
        (held-both ChangeKeeps (ChangeNeeds g marks live) (vertex_at g k).changes (kept_parts k).0 (slice_index_or-all ChangesNeed g.vertices no_vertex k needs.changes tt));
    edges = λ s inside clk early. every-map (λ e. EdgeKeeps e × (EdgeNeeds g marks e × DelayLives live e)) (EdgeFits g marks live s clk) (edge-fits s inside clk early) (vertex_at g k).edges
        (held-both EdgeKeeps (λ e. EdgeNeeds g marks e × DelayLives live e) (vertex_at g k).edges (kept_parts k).1
        (held-both (EdgeNeeds g marks) (DelayLives live) (vertex_at g k).edges (slice_index_or-all EdgesNeed g.vertices no_vertex k needs.edges tt) (slice_index_or-all DelaysLive g.vertices no_vertex k needs.delays tt)));
  }

  pub unneeded_may_go : MayGo g marks live Inside
  unneeded_may_go = record { vertices = vertex-fits; watched = needs.watched; kept = in_range-kept g; first = needs.first }
