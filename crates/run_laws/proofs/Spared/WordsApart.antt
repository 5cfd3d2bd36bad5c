-- An edge does the same, whatever words were taken from the streams from which it doesn't draw.
use Rattle.std.proofs.Common.{◌≡◌, ℕ, ◌+◌, Bool, true, false, cond, List, [], slice_set, Ok, refl, ◌∙◌, ap}
use Rattle.std.specs.List.{AllByRecursion}
use Rattle.std.specs.Option.{option_map_or}
use Rattle.sig_base.specs.Stream.{word}
use Rattle.model_core.specs.EventGraph.{EventGraph, EventEdge, Delay, Fixed, Drawn, EdgeKind, Schedule, Urgent, CancelNext, CancelEqual, CancelAll, delay_given, is_drawn, has_drawn_delay}
use Rattle.model_core.specs.Run.State.{State}
use Rattle.model_core.specs.Run.Value.{OrFault, ◌>>=◌, value_of, is_one}
use Rattle.model_core.specs.Run.Changes.{taken_from, drawn_value}
use Rattle.model_core.specs.Run.Edges.{EdgeState, Waiting, delay_ticks, delay_of, carried_values, scheduled, act, treat_edge}
use Rattle.model_core.specs.Rules.Uses.{delay_streams, edge_streams}
use Rattle.run_laws.proofs.Spared.InTurn.{result_by, bind-after, bind-within}

-- a change of the words taken that leaves this stream as it is, before and after a word of it is taken
pub record WordsApart (u : List ℕ → List ℕ) (stream : ℕ) : Type 0 where
  pub taken_from_it : (taken : List ℕ) → taken_from (u taken) stream ≡ taken_from taken stream
  pub set_after : (taken : List ℕ) (k : ℕ) → slice_set (u taken) stream k ≡ u (slice_set taken stream k)

module _ (u : List ℕ → List ℕ) where
  -- the words changed in what a delay and a plan leave of them
  abbrev pub wait_changed : Waiting → Waiting
  wait_changed w = record w { taken = u w.taken }

  abbrev pub words_changed : EdgeState → EdgeState
  words_changed p = record p { taken = u p.taken }

module _ (g : EventGraph) (seed : ℕ) (s : State) (clk : ℕ) (u : List ℕ → List ℕ) where
  pub delay-apart : (delay : Delay) → AllByRecursion (WordsApart u) (delay_streams delay) → (taken : List ℕ) → delay_of g seed s clk delay (u taken) ≡ result_by (wait_changed u) (delay_of g seed s clk delay taken)
  delay-apart (Fixed e) streams taken =
      bind-within (wait_changed u) (value_of g s clk e) _ _ (λ wait a.
      bind-within (wait_changed u) (delay_ticks wait) _ _ (λ n b. refl))
  delay-apart (Drawn stream choice) (apart, none) taken =
      ap (λ (k : ℕ). delay_ticks (drawn_value g choice (word seed stream k)) >>= λ n. let r : OrFault Waiting = Ok (record { ticks = n; taken = slice_set (u taken) stream (k + 1) }) in r) (apart.taken_from_it taken) ∙
      bind-within (wait_changed u) (delay_ticks (drawn_value g choice (word seed stream (taken_from taken stream)))) _ _ (λ n is.
      ap (λ (t : List ℕ). let r : OrFault Waiting = Ok (record { ticks = n; taken = t }) in r) (apart.set_after taken (taken_from taken stream + 1)))

  act-apart : (e : EventEdge) (kind : EdgeKind) → AllByRecursion (WordsApart u) (option_map_or delay_streams (delay_given kind) []) → (p : EdgeState) → act g seed s clk e kind (words_changed u p) ≡ result_by (words_changed u) (act g seed s clk e kind p)
  act-apart e (Schedule delay priority) streams p =
      let next : Waiting → OrFault EdgeState = λ wait. carried_values g s clk e >>= λ values. Ok (record { pending = scheduled (clk + wait.ticks) priority e.target p.pending values; taken = wait.taken }) in
      ap (λ (r : OrFault Waiting). r >>= next) (delay-apart delay streams p.taken) ∙
      bind-after (wait_changed u) (words_changed u) (delay_of g seed s clk delay p.taken) next next (λ wait a.
      bind-within (words_changed u) (carried_values g s clk e) _ _ (λ values b. refl))
  act-apart e Urgent streams p = bind-within (words_changed u) (carried_values g s clk e) _ _ (λ values b. refl)
  act-apart e CancelNext streams p = refl
  act-apart e CancelEqual streams p = bind-within (words_changed u) (carried_values g s clk e) _ _ (λ values b. refl)
  act-apart e CancelAll streams p = refl

  pub treat_edge-apart : (e : EventEdge) → AllByRecursion (WordsApart u) (edge_streams e) → (p : EdgeState) → treat_edge g seed s clk e (words_changed u p) ≡ result_by (words_changed u) (treat_edge g seed s clk e p)
  treat_edge-apart e streams p = bind-within (words_changed u) (value_of g s clk e.condition) _ _ (λ c is. tested (is_one c)) where
    tested : (b : Bool) → cond b (act g seed s clk e e.kind (words_changed u p)) (Ok (words_changed u p)) ≡ result_by (words_changed u) (cond b (act g seed s clk e e.kind p) (Ok p))
    tested true = act-apart e e.kind streams p
    tested false = refl

-- ---- an edge whose delay isn't drawn draws from no stream

delay-undrawn : (d : Delay) → is_drawn d ≡ false → delay_streams d ≡ []
delay-undrawn (Fixed e) fixed = refl
delay-undrawn (Drawn stream choice) fixed = cc

timing-undrawn : (kind : EdgeKind) → option_map_or is_drawn (delay_given kind) false ≡ false → option_map_or delay_streams (delay_given kind) [] ≡ []
timing-undrawn (Schedule delay priority) fixed = delay-undrawn delay fixed
timing-undrawn Urgent fixed = refl
timing-undrawn CancelNext fixed = refl
timing-undrawn CancelEqual fixed = refl
timing-undrawn CancelAll fixed = refl

pub undrawn : (e : EventEdge) → has_drawn_delay e ≡ false → edge_streams e ≡ []
undrawn e fixed = timing-undrawn e.kind fixed
