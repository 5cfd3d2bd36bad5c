-- What the edges of an event do to the pending list, apart from the list: deeds, which are decided by the state alone.
use Rattle.std.proofs.Common.{◌≡◌, ℕ, ◌+◌, ◌==◌, ℤ, Bool, true, false, cond, List, [], ◌∷◌, ◌++◌, Ok, refl, sym, ◌∙◌, ap}
use Rattle.model_core.specs.EventGraph.{EventGraph, EventVertex, EventEdge, EdgeKind, Schedule, Urgent, CancelNext, CancelEqual, CancelAll}
use Rattle.model_core.specs.Run.State.{State}
use Rattle.model_core.specs.Run.Value.{OrFault, ◌>>=◌, in_turn, value_of, is_one}
use Rattle.model_core.specs.Run.Changes.{ChangeState, make_change}
use Rattle.model_core.specs.Run.Pending.{Entry, EntryAndRest, is_of, is_event_with, without_next, without_all}
use Rattle.model_core.specs.Run.Edges.{EdgeState, delay_of, carried_values, act, treat_edge}
use Rattle.model_core.specs.Run.Step.{Configuration, receive, occur}
use Rattle.run_laws.proofs.Spared.InTurn.{result_by, bind-after, bind-within}

-- one thing that an edge does to a pending list
pub data ListEdit : Type 0 where
  AddsEvent : Entry → ListEdit
  CutsNext : ℕ → ListEdit
  CutsEqual : ℕ → List ℤ → ListEdit
  CutsAll : ℕ → ListEdit

-- the vertex on whose events it is
abbrev pub deed_vertex : ListEdit → ℕ
deed_vertex (AddsEvent e) = e.vertex
deed_vertex (CutsNext vertex) = vertex
deed_vertex (CutsEqual vertex values) = vertex
deed_vertex (CutsAll vertex) = vertex

-- the deed cancels no event of the vertex
abbrev pub CutsOthers : ℕ → ListEdit → Type 0
CutsOthers vertex (AddsEvent e) = Unit {0}
CutsOthers vertex (CutsNext v) = (v == vertex) ≡ false
CutsOthers vertex (CutsEqual v values) = (v == vertex) ≡ false
CutsOthers vertex (CutsAll v) = (v == vertex) ≡ false

-- a pending list after a deed
abbrev pub after_edit : ListEdit → List Entry → List Entry
after_edit (AddsEvent e) pending = pending ++ e ∷ []
after_edit (CutsNext vertex) pending = without_next (is_of vertex) pending
after_edit (CutsEqual vertex values) pending = without_next (is_event_with vertex values) pending
after_edit (CutsAll vertex) pending = without_all (is_of vertex) pending

-- one after the other
abbrev pub after_edits : List ListEdit → List Entry → List Entry
after_edits [] pending = pending
after_edits (x ∷ xs) pending = after_edits xs (after_edit x pending)

-- deeds in order, and how many words were taken from each stream
pub record Plan : Type 0 where
  pub deeds : List ListEdit
  pub taken : List ℕ

-- with one deed more
abbrev pub and_deed : List ListEdit → ListEdit → List ℕ → Plan
and_deed deeds deed taken = record { deeds = deeds ++ deed ∷ []; taken = taken }

-- the deed of an edge where its condition is true
abbrev pub plan_act : EventGraph → ℕ → State → ℕ → EventEdge → EdgeKind → Plan → OrFault Plan
plan_act g seed s clk e (Schedule delay priority) p = do
  wait ← delay_of g seed s clk delay p.taken
  values ← carried_values g s clk e
  Ok (and_deed p.deeds (AddsEvent (record { time = clk + wait.ticks; priority = priority; vertex = e.target; values = values })) wait.taken)
plan_act g seed s clk e Urgent p = do
  values ← carried_values g s clk e
  Ok (and_deed p.deeds (AddsEvent (record { time = clk; priority = 0; vertex = e.target; values = values })) p.taken)
plan_act g seed s clk e CancelNext p = Ok (and_deed p.deeds (CutsNext e.target) p.taken)
plan_act g seed s clk e CancelEqual p = do
  values ← carried_values g s clk e
  Ok (and_deed p.deeds (CutsEqual e.target values) p.taken)
plan_act g seed s clk e CancelAll p = Ok (and_deed p.deeds (CutsAll e.target) p.taken)

abbrev pub plan : EventGraph → ℕ → State → ℕ → EventEdge → Plan → OrFault Plan
plan g seed s clk e p = do
  c ← value_of g s clk e.condition
  cond (is_one c) (plan_act g seed s clk e e.kind p) (Ok p)

-- what an event leaves of state and words, and its deeds
pub record Outcome : Type 0 where
  pub drawn : ChangeState
  pub deeds : List ListEdit

-- an event of the vertex at this time, with these values
abbrev pub outcome_of : EventGraph → ℕ → ℕ → EventVertex → List ℤ → ChangeState → OrFault Outcome
outcome_of g seed clk v values d = do
  s ← receive g v.parameters values d.state
  e ← in_turn (make_change g seed clk) v.changes (record { state = s; taken = d.taken })
  p ← in_turn (plan g seed e.state clk) v.edges (record { deeds = []; taken = e.taken })
  Ok (record { drawn = record { state = e.state; taken = p.taken }; deeds = p.deeds })

-- ---- the deeds, done to a list

after_edits-append : (xs : List ListEdit) (x : ListEdit) (pending : List Entry) → after_edits (xs ++ x ∷ []) pending ≡ after_edit x (after_edits xs pending)
after_edits-append [] x pending = refl
after_edits-append (y ∷ xs) x pending = after_edits-append xs x (after_edit y pending)

-- the plan, carried out on a list
abbrev pub carried_out : List Entry → Plan → EdgeState
carried_out pending p = record { pending = after_edits p.deeds pending; taken = p.taken }

module _ (g : EventGraph) (seed : ℕ) (s : State) (clk : ℕ) (pending : List Entry) where
  one_deed_more : (deeds : List ListEdit) (x : ListEdit) (taken : List ℕ) → ◌≡◌ {A = OrFault EdgeState} (Ok (record { pending = after_edit x (after_edits deeds pending); taken = taken })) (Ok (carried_out pending (and_deed deeds x taken)))
  one_deed_more deeds x taken = ap (λ (q : List Entry). let r : OrFault EdgeState = Ok (record { pending = q; taken = taken }) in r) (sym (after_edits-append deeds x pending))

  act-deed : (e : EventEdge) (kind : EdgeKind) (p : Plan) → act g seed s clk e kind (carried_out pending p) ≡ result_by (carried_out pending) (plan_act g seed s clk e kind p)
  act-deed e (Schedule delay priority) p =
      bind-within (carried_out pending) (delay_of g seed s clk delay p.taken) _ _ (λ wait a.
      bind-within (carried_out pending) (carried_values g s clk e) _ _ (λ values b.
      one_deed_more p.deeds (AddsEvent (record { time = clk + wait.ticks; priority = priority; vertex = e.target; values = values })) wait.taken))
  act-deed e Urgent p =
      bind-within (carried_out pending) (carried_values g s clk e) _ _ (λ values b.
      one_deed_more p.deeds (AddsEvent (record { time = clk; priority = 0; vertex = e.target; values = values })) p.taken)
  act-deed e CancelNext p = one_deed_more p.deeds (CutsNext e.target) p.taken
  act-deed e CancelEqual p =
      bind-within (carried_out pending) (carried_values g s clk e) _ _ (λ values b.
      one_deed_more p.deeds (CutsEqual e.target values) p.taken)
  act-deed e CancelAll p = one_deed_more p.deeds (CutsAll e.target) p.taken

  treat_edge-plan : (e : EventEdge) (p : Plan) → treat_edge g seed s clk e (carried_out pending p) ≡ result_by (carried_out pending) (plan g seed s clk e p)
  treat_edge-plan e p = bind-within (carried_out pending) (value_of g s clk e.condition) _ _ (λ c is. tested (is_one c)) where
    tested : (b : Bool) → cond b (act g seed s clk e e.kind (carried_out pending p)) (Ok (carried_out pending p)) ≡ result_by (carried_out pending) (cond b (plan_act g seed s clk e e.kind p) (Ok p))
    tested true = act-deed e e.kind p
    tested false = refl

  edges-plan : (es : List EventEdge) (p : Plan) → in_turn (treat_edge g seed s clk) es (carried_out pending p) ≡ result_by (carried_out pending) (in_turn (plan g seed s clk) es p)
  edges-plan [] p = refl
  edges-plan (e ∷ es) p =
      ap (λ (r : OrFault EdgeState). r >>= in_turn (treat_edge g seed s clk) es) (treat_edge-plan e p) ∙
      bind-after (carried_out pending) (carried_out pending) (plan g seed s clk e p) (in_turn (plan g seed s clk) es) (in_turn (treat_edge g seed s clk) es) (λ q planned. edges-plan es q)

-- ---- a step by its event

-- the configuration of a run once the outcome's deeds are done to a list
abbrev pub configuration_after : ℕ → List Entry → Outcome → Configuration
configuration_after clk pending o = record { clock = clk; state = o.drawn.state; taken = o.drawn.taken; pending = after_edits o.deeds pending }

pub occur-event : (g : EventGraph) (seed : ℕ) (v : EventVertex) (n : EntryAndRest) (d : ChangeState) → occur g seed v n d.state d.taken ≡ result_by (configuration_after n.entry.time n.others) (outcome_of g seed n.entry.time v n.entry.values d)
occur-event g seed v n d =
    let at_end = configuration_after n.entry.time n.others in
    bind-within at_end (receive g v.parameters n.entry.values d.state) _ _ (λ s got.
    bind-within at_end (in_turn (make_change g seed n.entry.time) v.changes (record { state = s; taken = d.taken })) _ _ (λ e made.
    ap (λ (r : OrFault EdgeState). r >>= λ p. let r : OrFault Configuration = Ok (record { clock = n.entry.time; state = e.state; taken = p.taken; pending = p.pending }) in r) (edges-plan g seed e.state n.entry.time n.others v.edges (record { deeds = []; taken = e.taken })) ∙
    bind-after (carried_out n.others) at_end (in_turn (plan g seed e.state n.entry.time) v.edges (record { deeds = []; taken = e.taken })) _ _ (λ p planned. refl)))
