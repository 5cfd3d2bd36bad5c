-- A step from two configurations that are alike leads to two that are alike, or to one fault.
use Rattle.std.proofs.Common.{◌≡◌, ℕ, ℤ, Bool, true, false, cond, List, [], ◌∷◌, Ok, refl, sym, ap, ◌∙◌, subst}
use Rattle.model_core.specs.EventGraph.{EventGraph, EventVertex, EventEdge, EdgeKind, Schedule, Urgent, CancelNext, CancelEqual, CancelAll}
use Rattle.model_core.specs.Run.State.{State}
use Rattle.model_core.specs.Run.Value.{in_turn, value_of, is_one}
use Rattle.model_core.specs.Run.Changes.{make_change}
use Rattle.model_core.specs.Run.Pending.{Entry, is_of, is_event_with, without_next, without_all}
use Rattle.model_core.specs.Run.Edges.{EdgeState, delay_of, carried_values, scheduled, act, treat_edge}
use Rattle.model_core.specs.Run.Step.{Configuration, receive, occur}
use Rattle.model_core.proofs.Alongside.{Alongside, both_go, bind-alongside, bind-alongside-same}
use Rattle.order_laws.proofs.DueSorted.{sorted, put_after, sorted-scheduled}
use Rattle.order_laws.proofs.SortedWithoutAll.{sorted-without_all}
use Rattle.order_laws.proofs.SortedTakenOff.{without_first, sorted-without_next}

-- pending lists that are the same once they are sorted, and the same words taken
pub record AlikePlanned (p q : EdgeState) : Type 0 where
  pub taken : p.taken ≡ q.taken
  pub due : sorted p.pending ≡ sorted q.pending

-- ---- what an edge does

scheduled-alike : (time priority vertex : ℕ) (values : List ℤ) (a b : List Entry) → sorted a ≡ sorted b → sorted (scheduled time priority vertex a values) ≡ sorted (scheduled time priority vertex b values)
scheduled-alike time priority vertex values a b due =
    let e : Entry = record { time = time; priority = priority; vertex = vertex; values = values } in
    sorted-scheduled a e ∙ ap (put_after e) due ∙ sym (sorted-scheduled b e)

without_next-alike : (test : Entry → Bool) (a b : List Entry) → sorted a ≡ sorted b → sorted (without_next test a) ≡ sorted (without_next test b)
without_next-alike test a b due = sorted-without_next test a ∙ ap (without_first test) due ∙ sym (sorted-without_next test b)

without_all-alike : (test : Entry → Bool) (a b : List Entry) → sorted a ≡ sorted b → sorted (without_all test a) ≡ sorted (without_all test b)
without_all-alike test a b due = sorted-without_all test a ∙ ap (without_all test) due ∙ sym (sorted-without_all test b)

module _ (g : EventGraph) (seed : ℕ) (s : State) (clk : ℕ) where
  act-alike : (e : EventEdge) (kind : EdgeKind) (taken : List ℕ) (a b : List Entry) → sorted a ≡ sorted b → Alongside AlikePlanned (act g seed s clk e kind (record { pending = a; taken = taken })) (act g seed s clk e kind (record { pending = b; taken = taken }))
  act-alike e (Schedule delay priority) taken a b due =
      bind-alongside-same AlikePlanned (delay_of g seed s clk delay taken) _ _ (λ wait at_delay.
      bind-alongside-same AlikePlanned (carried_values g s clk e) _ _ (λ values at_values.
      both_go (record { taken = refl; due = scheduled-alike _ priority e.target values a b due })))
  act-alike e Urgent taken a b due =
      bind-alongside-same AlikePlanned (carried_values g s clk e) _ _ (λ values at_values.
      both_go (record { taken = refl; due = scheduled-alike clk 0 e.target values a b due }))
  act-alike e CancelNext taken a b due = both_go (record { taken = refl; due = without_next-alike (is_of e.target) a b due })
  act-alike e CancelEqual taken a b due =
      bind-alongside-same AlikePlanned (carried_values g s clk e) _ _ (λ values at_values.
      both_go (record { taken = refl; due = without_next-alike (is_event_with e.target values) a b due }))
  act-alike e CancelAll taken a b due = both_go (record { taken = refl; due = without_all-alike (is_of e.target) a b due })

  acts-or-not : (e : EventEdge) (c : Bool) (taken : List ℕ) (a b : List Entry) → sorted a ≡ sorted b → (let p : EdgeState = record { pending = a; taken = taken } in let q : EdgeState = record { pending = b; taken = taken } in Alongside AlikePlanned (cond c (act g seed s clk e e.kind p) (Ok p)) (cond c (act g seed s clk e e.kind q) (Ok q)))
  acts-or-not e true taken a b due = act-alike e e.kind taken a b due
  acts-or-not e false taken a b due = both_go (record { taken = refl; due = due })

  treat_edge-alike : (e : EventEdge) (p q : EdgeState) → AlikePlanned p q → Alongside AlikePlanned (treat_edge g seed s clk e p) (treat_edge g seed s clk e q)
  treat_edge-alike e p q alike =
      subst (λ t. Alongside AlikePlanned (treat_edge g seed s clk e p) (treat_edge g seed s clk e (record q { taken = t }))) alike.taken
      (bind-alongside-same AlikePlanned (value_of g s clk e.condition) _ _ (λ c at_condition.
      acts-or-not e (is_one c) p.taken p.pending q.pending alike.due))

  pub all-alike : (edges : List EventEdge) (p q : EdgeState) → AlikePlanned p q → Alongside AlikePlanned (in_turn (treat_edge g seed s clk) edges p) (in_turn (treat_edge g seed s clk) edges q)
  all-alike [] p q alike = both_go alike
  all-alike (e ∷ edges) p q alike =
      bind-alongside AlikePlanned AlikePlanned (treat_edge-alike e p q alike) (in_turn (treat_edge g seed s clk) edges) (in_turn (treat_edge g seed s clk) edges) (all-alike edges)

-- ---- an event

-- configurations whose pending lists are the same once they are sorted
pub record AlikeSorted (c d : Configuration) : Type 0 where
  pub clock : c.clock ≡ d.clock
  pub state : c.state ≡ d.state
  pub taken : c.taken ≡ d.taken
  pub due : sorted c.pending ≡ sorted d.pending

pub occur-alike : (g : EventGraph) (seed : ℕ) (v : EventVertex) (e : Entry) (a b : List Entry) (s : State) (taken : List ℕ) → sorted a ≡ sorted b → Alongside AlikeSorted (occur g seed v (record { entry = e; others = a }) s taken) (occur g seed v (record { entry = e; others = b }) s taken)
occur-alike g seed v e a b s taken due =
    bind-alongside-same AlikeSorted (receive g v.parameters e.values s) _ _ (λ t at_receive.
    bind-alongside-same AlikeSorted (in_turn (make_change g seed e.time) v.changes (record { state = t; taken = taken })) _ _ (λ d at_changes.
    bind-alongside AlikePlanned AlikeSorted (all-alike g seed d.state e.time v.edges (record { pending = a; taken = d.taken }) (record { pending = b; taken = d.taken }) (record { taken = refl; due = due })) _ _ (λ p q alike.
    both_go (record { clock = refl; state = refl; taken = alike.taken; due = alike.due }))))
