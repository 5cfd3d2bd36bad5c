-- The deeds of edges that read none of the variables that are set, and that draw from none of the streams that are: the same.
use Rattle.std.proofs.Common.{◌≡◌, ℕ, ◌+◌, ℤ, Bool, true, false, cond, List, [], ◌∷◌, ◌++◌, Ok, refl, sym, ◌∙◌, ap}
use Rattle.std.specs.List.{AllByRecursion, flat_map}
use Rattle.std.specs.Option.{option_map_or}
use Rattle.model_core.specs.EventGraph.{EventGraph, EventEdge, Delay, EdgeKind, Schedule, Urgent, CancelNext, CancelEqual, CancelAll, delay_given}
use Rattle.model_core.specs.Run.State.{State}
use Rattle.model_core.specs.Run.Value.{OrFault, ◌>>=◌, in_turn, value_of, is_one}
use Rattle.model_core.specs.Run.Edges.{Waiting, delay_of, carried_values}
use Rattle.model_core.specs.Rules.Uses.{variables_in, delay_reads, edge_reads, delay_streams, edge_streams}
use Rattle.model_core.proofs.EachOne.{every-map, every-front, every-after, every-flat_map}
use Rattle.run_laws.proofs.Spared.SetPlaces.{sets, Spares, sets-spared, sets-set}
use Rattle.run_laws.proofs.Spared.HeldEdges.{delay-held}
use Rattle.run_laws.proofs.Spared.WordsApart.{WordsApart, wait_changed, delay-apart}
use Rattle.run_laws.proofs.Spared.InTurn.{result_by, bind-after, bind-within}
use Rattle.run_laws.proofs.Spared.SparedValues.{held, value-spared, values-spared}
use Rattle.conflict_report.proofs.ListEdits.{AddsEvent, CutsEqual, Plan, and_deed, plan_act, plan}

-- streams, set in what a plan leaves of them
abbrev pub plan_beside : List (ℕ × ℕ) → Plan → Plan
plan_beside ws p = record p { taken = sets ws p.taken }

-- what an edge uses is spared
pub record EdgeSpared (us : List (ℕ × List ℤ)) (ws : List (ℕ × ℕ)) (e : EventEdge) : Type 0 where
  pub reads : AllByRecursion (Spares us) (edge_reads e)
  pub streams : AllByRecursion (Spares ws) (edge_streams e)

-- what sets other streams leaves one as it is
sets-apart : (ws : List (ℕ × ℕ)) (k : ℕ) → Spares ws k → WordsApart (sets ws) k
sets-apart ws k spared = record { taken_from_it = λ taken. sets-spared ws taken k 0 spared; set_after = λ taken x. sets-set ws taken k x spared }

module _ (g : EventGraph) (us : List (ℕ × List ℤ)) (ws : List (ℕ × ℕ)) (seed : ℕ) (s : State) (clk : ℕ) where
  delay-spared : (delay : Delay) → AllByRecursion (Spares us) (delay_reads delay) → AllByRecursion (Spares ws) (delay_streams delay) → (taken : List ℕ) → delay_of g seed (sets us s) clk delay (sets ws taken) ≡ result_by (wait_changed (sets ws)) (delay_of g seed s clk delay taken)
  delay-spared delay reads streams taken =
      sym (delay-held g seed s (sets us s) clk delay (held g clk us s (delay_reads delay) reads) (sets ws taken)) ∙
      delay-apart g seed s clk (sets ws) delay (every-map (Spares ws) (WordsApart (sets ws)) (λ k spared. sets-apart ws k spared) (delay_streams delay) streams) taken

  act-spared : (e : EventEdge) (kind : EdgeKind) → AllByRecursion (Spares us) (option_map_or delay_reads (delay_given kind) []) → AllByRecursion (λ e. AllByRecursion (Spares us) (variables_in e)) e.values → AllByRecursion (Spares ws) (option_map_or delay_streams (delay_given kind) []) → (p : Plan) → plan_act g seed (sets us s) clk e kind (plan_beside ws p) ≡ result_by (plan_beside ws) (plan_act g seed s clk e kind p)
  act-spared e (Schedule delay priority) reads values streams p =
      let next : Waiting → OrFault Plan = λ wait. carried_values g (sets us s) clk e >>= λ values. Ok (and_deed p.deeds (AddsEvent (record { time = clk + wait.ticks; priority = priority; vertex = e.target; values = values })) wait.taken) in
      ap (λ (r : OrFault Waiting). r >>= next) (delay-spared delay reads streams p.taken) ∙
      bind-after (wait_changed (sets ws)) (plan_beside ws) (delay_of g seed s clk delay p.taken) _ next (λ wait a.
      ap (λ (q : OrFault (List ℤ)). q >>= λ values. let r : OrFault Plan = Ok (and_deed p.deeds (AddsEvent (record { time = clk + wait.ticks; priority = priority; vertex = e.target; values = values })) (sets ws wait.taken)) in r) (values-spared g clk us s e.values values) ∙
      bind-within (plan_beside ws) (carried_values g s clk e) _ _ (λ values b. refl))
  act-spared e Urgent reads values streams p =
      ap (λ (q : OrFault (List ℤ)). q >>= λ values. let r : OrFault Plan = Ok (and_deed p.deeds (AddsEvent (record { time = clk; priority = 0; vertex = e.target; values = values })) (sets ws p.taken)) in r) (values-spared g clk us s e.values values) ∙
      bind-within (plan_beside ws) (carried_values g s clk e) _ _ (λ values b. refl)
  act-spared e CancelNext reads values streams p = refl
  act-spared e CancelEqual reads values streams p =
      ap (λ (q : OrFault (List ℤ)). q >>= λ values. let r : OrFault Plan = Ok (and_deed p.deeds (CutsEqual e.target values) (sets ws p.taken)) in r) (values-spared g clk us s e.values values) ∙
      bind-within (plan_beside ws) (carried_values g s clk e) _ _ (λ values b. refl)
  act-spared e CancelAll reads values streams p = refl

  plan-spared : (e : EventEdge) → EdgeSpared us ws e → (p : Plan) → plan g seed (sets us s) clk e (plan_beside ws p) ≡ result_by (plan_beside ws) (plan g seed s clk e p)
  plan-spared e spared p =
      let front = every-front (Spares us) (variables_in e.condition ++ option_map_or delay_reads (delay_given e.kind) []) (flat_map variables_in e.values) spared.reads in
      let values = every-flat_map (Spares us) variables_in e.values (every-after (Spares us) (variables_in e.condition ++ option_map_or delay_reads (delay_given e.kind) []) (flat_map variables_in e.values) spared.reads) in
      let delay = every-after (Spares us) (variables_in e.condition) (option_map_or delay_reads (delay_given e.kind) []) front in
      ap (λ (r : OrFault ℤ). r >>= λ c. cond (is_one c) (plan_act g seed (sets us s) clk e e.kind (plan_beside ws p)) (Ok (plan_beside ws p))) (value-spared g clk us s e.condition (every-front (Spares us) (variables_in e.condition) (option_map_or delay_reads (delay_given e.kind) []) front)) ∙
      bind-within (plan_beside ws) (value_of g s clk e.condition) _ _ (λ c is. tested (is_one c) (act-spared e e.kind delay values spared.streams p)) where
        tested : (b : Bool) → plan_act g seed (sets us s) clk e e.kind (plan_beside ws p) ≡ result_by (plan_beside ws) (plan_act g seed s clk e e.kind p) → cond b (plan_act g seed (sets us s) clk e e.kind (plan_beside ws p)) (Ok (plan_beside ws p)) ≡ result_by (plan_beside ws) (cond b (plan_act g seed s clk e e.kind p) (Ok p))
        tested true same = same
        tested false same = refl

  pub plans-spared : (es : List EventEdge) → AllByRecursion (EdgeSpared us ws) es → (p : Plan) → in_turn (plan g seed (sets us s) clk) es (plan_beside ws p) ≡ result_by (plan_beside ws) (in_turn (plan g seed s clk) es p)
  plans-spared [] spared p = refl
  plans-spared (e ∷ es) (now, spared) p =
      ap (λ (r : OrFault Plan). r >>= in_turn (plan g seed (sets us s) clk) es) (plan-spared e now p) ∙
      bind-after (plan_beside ws) (plan_beside ws) (plan g seed s clk e p) (in_turn (plan g seed s clk) es) (in_turn (plan g seed (sets us s) clk) es) (λ q planned. plans-spared es spared q)
