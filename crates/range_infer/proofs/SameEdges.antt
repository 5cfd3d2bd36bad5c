-- Edges are the same in a model and in one with narrower ranges, and what they schedule fits these.
use Rattle.std.proofs.Common.{◌≡◌, ℕ, ◌+◌, ◌≤◌, ◌^◌, ℤ, Bool, true, false, ◌&&◌, cond, IsTrue, List, [], ◌∷◌, map, zip, length, Ok, refl, sym, ◌∙◌, ap, ap₂, subst, arith}
use Rattle.std.proofs.lemmas.Int.{ints}
use Rattle.std.specs.List.{AllByRecursion}
use Rattle.model_core.specs.declared.model.Kind.{Kind}
use Rattle.model_core.specs.declared.model.Kind.TheVariants as kinds
use Rattle.model_core.specs.EventGraph.{EventGraph, EventEdge, Uniform, ByTable, Delay, Fixed, Drawn, EdgeKind, Schedule, Urgent, CancelNext, CancelEqual, CancelAll, Expression, is_scheduling}
use Rattle.model_core.specs.Run.State.{State, Place, scalar, in_range}
use Rattle.model_core.specs.Run.Value.{OrFault, ◌>>=◌, number_of, is_one, each, value_of}
use Rattle.model_core.specs.Run.Pending.{Entry, is_of, is_event_with, without_next, without_all}
use Rattle.model_core.specs.Run.Edges.{EdgeState, Waiting, delay_ticks, delay_of, scheduled, carried_values, act, treat_edge}
use Rattle.model_core.specs.Run.Step.{vertex_at}
use Rattle.model_core.specs.Static.HasKind.{HasKind}
use Rattle.model_core.specs.Static.OwnRules.{CarriesValues, CarriedFitKinds, KeepsParts, parameters_of}
use Rattle.model_core.specs.Rules.BoundsOf.{bounds_under}
use Rattle.model_core.specs.Rules.BoundsHold.{NumberIn}
use Rattle.model_core.proofs.Results.{bind_ok}
use Rattle.model_core.proofs.EachOne.{every-append}
use Rattle.run_laws.proofs.MappedPending.{without_next-every, without_all-every}
use Rattle.model_core.specs.Rules.RangesHold.{TruthsAreDeclared}
use Rattle.model_core.specs.declared.var_range.VarRange.{VarRange}
use Rattle.model_core.specs.Ranges.OtherRanges.{model_with_ranges}
use Rattle.model_core.specs.Ranges.Refined.{refined}
use Rattle.model_core.specs.Ranges.Incoming.{assigned, into_edge}
use Rattle.model_core.specs.Ranges.Inductive.{Fitting, HoldsIncoming}
use Rattle.range_infer.proofs.ModelWithRanges.{has_kind, same_value}
use Rattle.range_infer.proofs.BoundsInHold.{left_alike, left_within, can_be_true, between}
use Rattle.range_infer.proofs.NarrowModels.{truths_redeclared, EdgeInRanges}
use Rattle.range_infer.proofs.SameStores.{StoreFits, values_fit}

module _ (g : EventGraph) (ranges : List VarRange) (fitting : Fitting g ranges) (keeps : KeepsParts g) where
  abbrev h : EventGraph
  h = model_with_ranges g ranges

  -- what its vertex keeps of an entry's values lies in the ranges
  abbrev pub CarriedFits : ℕ → List ℤ → Type 0
  CarriedFits vertex values = AllByRecursion (StoreFits g ranges fitting) (zip (map scalar (vertex_at g vertex).parameters) values)

  abbrev pub EntryFits : Entry → Type 0
  EntryFits e = CarriedFits e.vertex e.values

  abbrev pub PlannedFits : EdgeState → Type 0
  PlannedFits p = AllByRecursion EntryFits p.pending

  -- ---- the same

  same_wait : (seed : ℕ) (s : State) (clk : ℕ) (delay : Delay) (taken : List ℕ) → delay_of g seed s clk delay taken ≡ delay_of h seed s clk delay taken
  same_wait seed s clk (Fixed e) taken =
      ap (λ (r : OrFault ℤ). r >>= λ w. delay_ticks w >>= λ n. let wait : Waiting = record { ticks = n; taken = taken } in Ok wait) (same_value g ranges s clk e)
  same_wait seed s clk (Drawn stream (Uniform lo hi)) taken = refl
  same_wait seed s clk (Drawn stream (ByTable t)) taken = refl

  same_act : (seed : ℕ) (s : State) (clk : ℕ) (e : EventEdge) (kind : EdgeKind) (p : EdgeState) → act g seed s clk e kind p ≡ act h seed s clk e kind p
  same_act seed s clk e (Schedule delay priority) p =
      ap₂ (λ (wait : OrFault Waiting) (value : Expression → OrFault ℤ). wait >>= λ wait. each value e.values >>= λ values. Ok (record { pending = scheduled (clk + wait.ticks) priority e.target p.pending values; taken = wait.taken })) (same_wait seed s clk delay p.taken) (λ i x. same_value g ranges s clk x i)
  same_act seed s clk e Urgent p =
      ap (λ (value : Expression → OrFault ℤ). each value e.values >>= λ values. Ok (record p { pending = scheduled clk 0 e.target p.pending values })) (λ i x. same_value g ranges s clk x i)
  same_act seed s clk e CancelNext p = refl
  same_act seed s clk e CancelEqual p =
      ap (λ (value : Expression → OrFault ℤ). each value e.values >>= λ values. Ok (record p { pending = without_next (is_event_with e.target values) p.pending })) (λ i x. same_value g ranges s clk x i)
  same_act seed s clk e CancelAll p = refl

  pub same_edge : (seed : ℕ) (s : State) (clk : ℕ) (e : EventEdge) (p : EdgeState) → treat_edge g seed s clk e p ≡ treat_edge h seed s clk e p
  same_edge seed s clk e p =
      ap₂ (λ (r : OrFault ℤ) (q : OrFault EdgeState). r >>= λ c. cond (is_one c) q (Ok p)) (same_value g ranges s clk e.condition) (same_act seed s clk e e.kind p)

  -- ---- what is scheduled fits

  module _ (s : State) (inside : IsTrue (in_range h s)) (clk : ℕ) (early : clk ≤ 2 ^ 48) where
    one_is_true : (c : ℤ) → is_one c ≡ true → c ≡ number_of true
    one_is_true c e = grind (arith, ints)

    scalars_named : (vs : List ℕ) → vs ≡ map (λ (p : Place). p.variable) (map scalar vs)
    scalars_named [] = refl
    scalars_named (v ∷ vs) = ap (λ (ns : List ℕ). v ∷ ns) (scalars_named vs)

    -- what an edge takes that schedules where its condition can be true
    taken_into : (e : EventEdge) → is_scheduling e.kind ≡ true → (bounds_under refined h.variables e.condition).can_true ≡ true → into_edge g h.variables e ≡ assigned (refined e.condition true h.variables) (vertex_at g e.target).parameters e.values
    taken_into e is can = ap₂ (λ (a b : Bool). cond (a && b) (assigned (refined e.condition true h.variables) (vertex_at g e.target).parameters e.values) []) is can

    module _ (e : EventEdge) (in_ranges : EdgeInRanges g ranges e) (taken : value_of g s clk e.condition ≡ Ok (number_of true)) where
      truths : TruthsAreDeclared h.variables
      truths = truths_redeclared g ranges keeps.variables fitting

      condition_kind : HasKind h.variables e.condition kinds.Truth
      condition_kind = has_kind g.variables ranges e.condition kinds.Truth in_ranges.keeps.condition

      taken_too : value_of h s clk e.condition ≡ Ok (number_of true)
      taken_too = sym (same_value g ranges s clk e.condition) ∙ taken

      values_between : (x : Expression) (k : Kind) (y : ℤ) → HasKind g.variables x k → value_of g s clk x ≡ Ok y → NumberIn (bounds_under refined (refined e.condition true h.variables) x) y
      values_between x k y is done =
          between h truths s inside clk early x k (refined e.condition true h.variables) y (has_kind g.variables ranges x k is) (left_alike h truths s inside clk early e.condition) (left_within h truths s inside clk early e.condition condition_kind taken_too) (sym (same_value g ranges s clk x) ∙ done)

      carried_fits : (parameters : List ℕ) (values : List ℤ) → CarriedFitKinds g.variables (length g.tables) (parameters_of g) parameters e.values → is_scheduling e.kind ≡ true → each (value_of g s clk) e.values ≡ Ok values → CarriedFits e.target values
      carried_fits parameters values carries is done =
          let into = taken_into e is (can_be_true h truths s inside clk early e.condition condition_kind taken_too) in
          let takes = subst (AllByRecursion (HoldsIncoming g ranges)) into in_ranges.takes in
          let named = subst (λ (vs : List ℕ). AllByRecursion (HoldsIncoming g ranges) (assigned (refined e.condition true h.variables) vs e.values)) (scalars_named (vertex_at g e.target).parameters) takes in
          values_fit g ranges fitting s clk (refined e.condition true h.variables) values_between (map scalar (vertex_at g e.target).parameters) e.values carries.kinds values carries.given done named

      act_fits : (seed : ℕ) (kind : EdgeKind) (p q : EdgeState) → e.kind ≡ kind → PlannedFits p → act g seed s clk e kind p ≡ Ok q → PlannedFits q
      act_fits seed (Schedule delay priority) p q is fits done =
          let (wait, at_delay, later) = bind_ok (delay_of g seed s clk delay p.taken) _ q done in
          let (values, at_values, end) = bind_ok (carried_values g s clk e) _ q later in
          let carries : CarriedFitKinds g.variables (length g.tables) (parameters_of g) in_ranges.keeps.parameters e.values = subst (λ (k : EdgeKind). CarriesValues g.variables (length g.tables) (parameters_of g) k in_ranges.keeps.parameters e.values) is in_ranges.keeps.carries in
          let new = carried_fits in_ranges.keeps.parameters values carries (ap is_scheduling is) at_values in
          let same : scheduled (clk + wait.ticks) priority e.target p.pending values ≡ q.pending = cc in
          subst (AllByRecursion EntryFits) same (every-append EntryFits p.pending (record { time = clk + wait.ticks; priority = priority; vertex = e.target; values = values }) fits new)
      act_fits seed Urgent p q is fits done =
          let (values, at_values, end) = bind_ok (carried_values g s clk e) _ q done in
          let carries : CarriedFitKinds g.variables (length g.tables) (parameters_of g) in_ranges.keeps.parameters e.values = subst (λ (k : EdgeKind). CarriesValues g.variables (length g.tables) (parameters_of g) k in_ranges.keeps.parameters e.values) is in_ranges.keeps.carries in
          let new = carried_fits in_ranges.keeps.parameters values carries (ap is_scheduling is) at_values in
          let same : scheduled clk 0 e.target p.pending values ≡ q.pending = cc in
          subst (AllByRecursion EntryFits) same (every-append EntryFits p.pending (record { time = clk; priority = 0; vertex = e.target; values = values }) fits new)
      act_fits seed CancelNext p q is fits done =
          let same : without_next (is_of e.target) p.pending ≡ q.pending = cc in
          subst (AllByRecursion EntryFits) same (without_next-every EntryFits (is_of e.target) p.pending fits)
      act_fits seed CancelEqual p q is fits done =
          let (values, at_values, end) = bind_ok (carried_values g s clk e) _ q done in
          let same : without_next (is_event_with e.target values) p.pending ≡ q.pending = cc in
          subst (AllByRecursion EntryFits) same (without_next-every EntryFits (is_event_with e.target values) p.pending fits)
      act_fits seed CancelAll p q is fits done =
          let same : without_all (is_of e.target) p.pending ≡ q.pending = cc in
          subst (AllByRecursion EntryFits) same (without_all-every EntryFits (is_of e.target) p.pending fits)

    pub edge_fits : (seed : ℕ) (e : EventEdge) → EdgeInRanges g ranges e → (p q : EdgeState) → PlannedFits p → treat_edge g seed s clk e p ≡ Ok q → PlannedFits q
    edge_fits seed e in_ranges p q fits done =
        let (c, at_condition, later) = bind_ok (value_of g s clk e.condition) _ q done in
        tested c at_condition (is_one c) refl later
      where
        tested : (c : ℤ) → value_of g s clk e.condition ≡ Ok c → (b : Bool) → is_one c ≡ b → cond b (act g seed s clk e e.kind p) (Ok p) ≡ Ok q → PlannedFits q
        tested c at true one later =
            act_fits e in_ranges (at ∙ ap (λ (c : ℤ). Ok c) (one_is_true c one)) seed e.kind p q refl fits later
        tested c at false one later = let same : p ≡ q = cc in subst PlannedFits same fits
