-- An edge does the same in two states that hold the same in each variable that it reads.
use Rattle.std.proofs.Common.{◌≡◌, ℕ, ◌+◌, ℤ, cond, List, [], ◌++◌, Ok, refl, ap, ap₂}
use Rattle.std.specs.List.{AllByRecursion, flat_map}
use Rattle.std.specs.Option.{option_map_or}
use Rattle.model_core.specs.EventGraph.{EventGraph, EventEdge, Delay, Fixed, Drawn, EdgeKind, Schedule, Urgent, CancelNext, CancelEqual, CancelAll, delay_given}
use Rattle.model_core.specs.Run.State.{State}
use Rattle.model_core.specs.Run.Value.{OrFault, ◌>>=◌, is_one}
use Rattle.model_core.specs.Run.Pending.{is_event_with, without_next}
use Rattle.model_core.specs.Run.Edges.{EdgeState, Waiting, delay_ticks, delay_of, scheduled, act, treat_edge}
use Rattle.model_core.specs.Rules.Uses.{variables_in, delay_reads, edge_reads}
use Rattle.model_core.proofs.EachOne.{every-front, every-after, every-flat_map}
use Rattle.run_laws.proofs.Spared.HeldValues.{Holds, value-held, values-held}

module _ (g : EventGraph) (seed : ℕ) (s t : State) (clk : ℕ) where
  abbrev AllHold : List ℕ → Type 0
  AllHold vs = AllByRecursion (Holds s t) vs

  pub delay-held : (delay : Delay) → AllHold (delay_reads delay) → (taken : List ℕ) → delay_of g seed s clk delay taken ≡ delay_of g seed t clk delay taken
  delay-held (Fixed e) reads taken =
      ap (λ (r : OrFault ℤ). r >>= λ wait. delay_ticks wait >>= λ n. let q : OrFault Waiting = Ok (record { ticks = n; taken = taken }) in q) (value-held g s t clk e reads)
  delay-held (Drawn stream choice) reads taken = refl

  act-held : (e : EventEdge) (kind : EdgeKind) → AllHold (option_map_or delay_reads (delay_given kind) []) → AllByRecursion (λ e. AllHold (variables_in e)) e.values → (p : EdgeState) → act g seed s clk e kind p ≡ act g seed t clk e kind p
  act-held e (Schedule delay priority) reads values p =
      ap₂ (λ (d : OrFault Waiting) (vs : OrFault (List ℤ)). d >>= λ wait. vs >>= λ values. let q : OrFault EdgeState = Ok (record { pending = scheduled (clk + wait.ticks) priority e.target p.pending values; taken = wait.taken }) in q) (delay-held delay reads p.taken) (values-held g s t clk e.values values)
  act-held e Urgent reads values p =
      ap (λ (vs : OrFault (List ℤ)). vs >>= λ values. let q : OrFault EdgeState = Ok (record p { pending = scheduled clk 0 e.target p.pending values }) in q) (values-held g s t clk e.values values)
  act-held e CancelNext reads values p = refl
  act-held e CancelEqual reads values p =
      ap (λ (vs : OrFault (List ℤ)). vs >>= λ values. let q : OrFault EdgeState = Ok (record p { pending = without_next (is_event_with e.target values) p.pending }) in q) (values-held g s t clk e.values values)
  act-held e CancelAll reads values p = refl

  pub treat_edge-held : (e : EventEdge) → AllHold (edge_reads e) → (p : EdgeState) → treat_edge g seed s clk e p ≡ treat_edge g seed t clk e p
  treat_edge-held e reads p =
      let front = every-front (Holds s t) (variables_in e.condition ++ option_map_or delay_reads (delay_given e.kind) []) (flat_map variables_in e.values) reads in
      let values = every-flat_map (Holds s t) variables_in e.values (every-after (Holds s t) (variables_in e.condition ++ option_map_or delay_reads (delay_given e.kind) []) (flat_map variables_in e.values) reads) in
      ap₂ (λ (c : OrFault ℤ) (a : OrFault EdgeState). c >>= λ c. cond (is_one c) a (Ok p)) (value-held g s t clk e.condition (every-front (Holds s t) (variables_in e.condition) (option_map_or delay_reads (delay_given e.kind) []) front)) (act-held e e.kind (every-after (Holds s t) (variables_in e.condition) (option_map_or delay_reads (delay_given e.kind) []) front) values p)
