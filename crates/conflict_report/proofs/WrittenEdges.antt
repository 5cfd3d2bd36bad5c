-- Edges take words only from the streams from which they draw, and have deeds only on events of vertices that they name.
use Rattle.std.proofs.Common.{◌≡◌, ℕ, ◌+◌, Bool, true, false, cond, List, [], ◌∷◌, inl, Ok, refl, sym, ap, subst}
use Rattle.std.specs.List.{AllByRecursion}
use Rattle.std.specs.Option.{option_map_or}
use Rattle.sig_base.specs.Stream.{word}
use Rattle.model_core.specs.EventGraph.{EventGraph, EventEdge, Delay, Fixed, Drawn, EdgeKind, Schedule, Urgent, CancelNext, CancelEqual, CancelAll, delay_given}
use Rattle.model_core.specs.Run.State.{State}
use Rattle.model_core.specs.Run.Value.{value_of, is_one}
use Rattle.model_core.specs.Run.Changes.{taken_from, one_more, drawn_value}
use Rattle.model_core.specs.Run.Edges.{Waiting, delay_ticks, delay_of, carried_values}
use Rattle.model_core.specs.Rules.Merge.{is_cancelling}
use Rattle.model_core.specs.Rules.Uses.{delay_streams, edge_streams}
use Rattle.model_core.specs.Conflicts.Conflict.{edge_cancelled}
use Rattle.model_core.proofs.Results.{bind_ok}
use Rattle.model_core.proofs.EachOne.{every-append}
use Rattle.model_core.proofs.Among.{Among}
use Rattle.run_laws.proofs.Spared.SetPlaces.{ChangedWithin, written-none}
use Rattle.conflict_report.proofs.ListEdits.{ListEdit, AddsEvent, CutsNext, CutsEqual, CutsAll, Plan, and_deed, plan_act, plan}

-- a deed adds an event of one of the named vertices, or cancels events of one of the cancelled ones
abbrev pub DeedOn : List ℕ → List ℕ → ListEdit → Type 0
DeedOn names cuts (AddsEvent e) = Among e.vertex names
DeedOn names cuts (CutsNext vertex) = Among vertex cuts
DeedOn names cuts (CutsEqual vertex values) = Among vertex cuts
DeedOn names cuts (CutsAll vertex) = Among vertex cuts

-- the words that an edge takes, and its deeds beside the earlier ones
pub record EdgeWritten (streams names cuts : List ℕ) (p q : Plan) : Type 0 where
  pub streams_drawn : ChangedWithin streams p.taken q.taken
  pub deeds : AllByRecursion (DeedOn names cuts) p.deeds → AllByRecursion (DeedOn names cuts) q.deeds

module _ (g : EventGraph) (seed : ℕ) (s : State) (clk : ℕ) where
  delay-written : (delay : Delay) (taken : List ℕ) (w : Waiting) → delay_of g seed s clk delay taken ≡ Ok w → ChangedWithin (delay_streams delay) taken w.taken
  delay-written (Fixed e) taken w done =
      let (wait, at_wait, after_wait) = bind_ok (value_of g s clk e) _ w done in
      let (n, at_ticks, end) = bind_ok (delay_ticks wait) (λ n. Ok (record { ticks = n; taken = taken })) w after_wait in
      let same : record { ticks = n; taken = taken } ≡ w = cc in
      written-none (delay_streams (Fixed e)) taken w.taken (ap (λ (w : Waiting). w.taken) same)
  delay-written (Drawn stream choice) taken w done =
      let (n, is, end) = bind_ok (delay_ticks (drawn_value g choice (word seed stream (taken_from taken stream)))) (λ n. Ok (record { ticks = n; taken = one_more taken stream })) w done in
      let same : record { ticks = n; taken = one_more taken stream } ≡ w = cc in
      record { pairs = (stream, taken_from taken stream + 1) ∷ []; among = (inl refl, tt); result = ap (λ (w : Waiting). w.taken) same }

  module _ (names cuts : List ℕ) (e : EventEdge) (on_named : Among e.target names) (p : Plan) where
    with_one : (streams : List ℕ) (x : ListEdit) (taken : List ℕ) → DeedOn names cuts x → ChangedWithin streams p.taken taken → EdgeWritten streams names cuts p (and_deed p.deeds x taken)
    with_one streams x taken on drawn = record {
      streams_drawn = drawn;
      deeds = λ all. every-append (DeedOn names cuts) p.deeds x all on;
    }

    undrawn : ChangedWithin [] p.taken p.taken
    undrawn = written-none [] p.taken p.taken refl

    act-written : (kind : EdgeKind) → (is_cancelling kind ≡ true → Among e.target cuts) → (q : Plan) → plan_act g seed s clk e kind p ≡ Ok q → EdgeWritten (option_map_or delay_streams (delay_given kind) []) names cuts p q
    act-written (Schedule delay priority) on_cancelled q done =
        let (wait, at_delay, after_delay) = bind_ok (delay_of g seed s clk delay p.taken) _ q done in
        let (values, at_values, end) = bind_ok (carried_values g s clk e) (λ values. Ok (and_deed p.deeds (AddsEvent (record { time = clk + wait.ticks; priority = priority; vertex = e.target; values = values })) wait.taken)) q after_delay in
        let same : and_deed p.deeds (AddsEvent (record { time = clk + wait.ticks; priority = priority; vertex = e.target; values = values })) wait.taken ≡ q = cc in
        subst (EdgeWritten (delay_streams delay) names cuts p) same (with_one (delay_streams delay) (AddsEvent (record { time = clk + wait.ticks; priority = priority; vertex = e.target; values = values })) wait.taken on_named (delay-written delay p.taken wait at_delay))
    act-written Urgent on_cancelled q done =
        let (values, at_values, end) = bind_ok (carried_values g s clk e) (λ values. Ok (and_deed p.deeds (AddsEvent (record { time = clk; priority = 0; vertex = e.target; values = values })) p.taken)) q done in
        let same : and_deed p.deeds (AddsEvent (record { time = clk; priority = 0; vertex = e.target; values = values })) p.taken ≡ q = cc in
        subst (EdgeWritten [] names cuts p) same (with_one [] (AddsEvent (record { time = clk; priority = 0; vertex = e.target; values = values })) p.taken on_named undrawn)
    act-written CancelNext on_cancelled q done =
        let same : and_deed p.deeds (CutsNext e.target) p.taken ≡ q = cc in
        subst (EdgeWritten [] names cuts p) same (with_one [] (CutsNext e.target) p.taken (on_cancelled refl) undrawn)
    act-written CancelEqual on_cancelled q done =
        let (values, at_values, end) = bind_ok (carried_values g s clk e) (λ values. Ok (and_deed p.deeds (CutsEqual e.target values) p.taken)) q done in
        let same : and_deed p.deeds (CutsEqual e.target values) p.taken ≡ q = cc in
        subst (EdgeWritten [] names cuts p) same (with_one [] (CutsEqual e.target values) p.taken (on_cancelled refl) undrawn)
    act-written CancelAll on_cancelled q done =
        let same : and_deed p.deeds (CutsAll e.target) p.taken ≡ q = cc in
        subst (EdgeWritten [] names cuts p) same (with_one [] (CutsAll e.target) p.taken (on_cancelled refl) undrawn)

    pub plan-written : (is_cancelling e.kind ≡ true → Among e.target cuts) → (q : Plan) → plan g seed s clk e p ≡ Ok q → EdgeWritten (edge_streams e) names cuts p q
    plan-written on_cancelled q done =
        let (c, is, acted) = bind_ok (value_of g s clk e.condition) _ q done in tested (is_one c) acted where
          tested : (b : Bool) → cond b (plan_act g seed s clk e e.kind p) (Ok p) ≡ Ok q → EdgeWritten (edge_streams e) names cuts p q
          tested true acted = act-written e.kind on_cancelled q acted
          tested false acted =
              let same : p ≡ q = cc in
              subst (EdgeWritten (edge_streams e) names cuts p) same (record { streams_drawn = written-none (edge_streams e) p.taken p.taken refl; deeds = λ all. all })

-- a cancelling edge's target is the one that it cancels
pub cancelling-cancelled : (e : EventEdge) → is_cancelling e.kind ≡ true → Among e.target (edge_cancelled e)
cancelling-cancelled e cancels = subst (λ (b : Bool). Among e.target (cond b (e.target ∷ []) [])) (sym cancels) (inl refl)
