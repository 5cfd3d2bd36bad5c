-- A fact about the pending list holds after an event, where cancelling and each event that edges schedule keep it:
-- above all a fact about each pending event, where it holds of each one that edges schedule.
use Rattle.std.proofs.Common.{◌≡◌, ℕ, ◌+◌, ℤ, Bool, true, false, cond, List, [], ◌∷◌, ◌++◌, Ok, refl, subst}
use Rattle.std.specs.List.{AllByRecursion}
use Rattle.model_core.specs.EventGraph.{EventGraph, EventVertex, EventEdge, EdgeKind, Schedule, Urgent, CancelNext, CancelEqual, CancelAll}
use Rattle.model_core.specs.Run.State.{State}
use Rattle.model_core.specs.Run.Value.{OrFault, in_turn, value_of, is_one}
use Rattle.model_core.specs.Run.Changes.{make_change}
use Rattle.model_core.specs.Run.Pending.{Entry, EntryAndRest, is_of, is_event_with, without_next, without_all}
use Rattle.model_core.specs.Run.Edges.{EdgeState, Waiting, delay_of, carried_values, act, treat_edge}
use Rattle.model_core.specs.Run.Step.{Configuration, receive, occur}
use Rattle.run_laws.proofs.MappedPending.{without_next-every, without_all-every}
use Rattle.model_core.proofs.EachOne.{every-append, every-map}
use Rattle.model_core.proofs.Results.{bind_ok}
use Rattle.run_laws.proofs.Keeping.{Kept, received, changed}

-- an edge of this kind schedules only events of which P holds
abbrev pub SchedulesOnly : (Entry → Type 0) → EventGraph → ℕ → State → ℕ → EventEdge → EdgeKind → Type 0
SchedulesOnly P g seed s clk e (Schedule delay priority) =
    (taken : List ℕ) (wait : Waiting) (values : List ℤ) → delay_of g seed s clk delay taken ≡ Ok wait → carried_values g s clk e ≡ Ok values → P (record { time = clk + wait.ticks; priority = priority; vertex = e.target; values = values })
SchedulesOnly P g seed s clk e Urgent =
    (values : List ℤ) → carried_values g s clk e ≡ Ok values → P (record { time = clk; priority = 0; vertex = e.target; values = values })
SchedulesOnly P g seed s clk e cancels = Unit {0}

-- the condition of the edge is true
abbrev pub IsTaken : EventGraph → State → ℕ → EventEdge → Type 0
IsTaken g s clk e = (c : ℤ) × (value_of g s clk e.condition ≡ Ok c) × (is_one c ≡ true)

-- a fact about lists stays true when events are cancelled, and when one is scheduled of which P holds
pub record StaysTrue (L : List Entry → Type 0) (P : Entry → Type 0) : Type 0 where
  pub by_next : (test : Entry → Bool) (xs : List Entry) → L xs → L (without_next test xs)
  pub by_all : (test : Entry → Bool) (xs : List Entry) → L xs → L (without_all test xs)
  pub by_one_more : (xs : List Entry) (x : Entry) → L xs → P x → L (xs ++ x ∷ [])

pub every-stays : (P : Entry → Type 0) → StaysTrue (AllByRecursion P) P
every-stays P = record { by_next = without_next-every P; by_all = without_all-every P; by_one_more = every-append P }

-- what is planned is what was done
pub pending-is : (L : List Entry → Type 0) (p q : EdgeState) → (let r : OrFault EdgeState = Ok p in r ≡ Ok q) → L p.pending → L q.pending
pending-is L p q e holds = let same : p ≡ q = cc in subst (λ (x : EdgeState). L x.pending) same holds

module _ (L : List Entry → Type 0) (P : Entry → Type 0) (stays : StaysTrue L P) (g : EventGraph) (seed : ℕ) (s : State) (clk : ℕ) where
  act-stays : (e : EventEdge) (kind : EdgeKind) (p q : EdgeState) → SchedulesOnly P g seed s clk e kind → L p.pending → act g seed s clk e kind p ≡ Ok q → L q.pending
  act-stays e (Schedule delay priority) p q only holds done =
      let (wait, at_delay, after_delay) = bind_ok (delay_of g seed s clk delay p.taken) _ q done in
      let (values, at_values, at_end) = bind_ok (carried_values g s clk e) _ q after_delay in
      pending-is L _ q at_end (stays.by_one_more p.pending _ holds (only p.taken wait values at_delay at_values))
  act-stays e Urgent p q only holds done =
      let (values, at_values, at_end) = bind_ok (carried_values g s clk e) _ q done in
      pending-is L _ q at_end (stays.by_one_more p.pending _ holds (only values at_values))
  act-stays e CancelNext p q only holds done = pending-is L _ q done (stays.by_next (is_of e.target) p.pending holds)
  act-stays e CancelEqual p q only holds done =
      let (values, at_values, at_end) = bind_ok (carried_values g s clk e) (λ values. Ok (record p { pending = without_next (is_event_with e.target values) p.pending })) q done in
      pending-is L _ q at_end (stays.by_next (is_event_with e.target values) p.pending holds)
  act-stays e CancelAll p q only holds done = pending-is L _ q done (stays.by_all (is_of e.target) p.pending holds)

  pub treat_edge-stays : (e : EventEdge) (p q : EdgeState) → (IsTaken g s clk e → SchedulesOnly P g seed s clk e e.kind) → L p.pending → treat_edge g seed s clk e p ≡ Ok q → L q.pending
  treat_edge-stays e p q only holds done =
      let (c, at_condition, after_condition) = bind_ok (value_of g s clk e.condition) (λ c. cond (is_one c) (act g seed s clk e e.kind p) (Ok p)) q done in
      tested (is_one c) (λ one. only (c, at_condition, one)) after_condition where
        tested : (b : Bool) → (b ≡ true → SchedulesOnly P g seed s clk e e.kind) → cond b (act g seed s clk e e.kind p) (Ok p) ≡ Ok q → L q.pending
        tested true only done = act-stays e e.kind p q (only refl) holds done
        tested false only done = pending-is L p q done holds

  pub edges-stay : (edges : List EventEdge) (p q : EdgeState) → AllByRecursion (λ e. IsTaken g s clk e → SchedulesOnly P g seed s clk e e.kind) edges → L p.pending → in_turn (treat_edge g seed s clk) edges p ≡ Ok q → L q.pending
  edges-stay [] p q only holds done = pending-is L p q done holds
  edges-stay (e ∷ edges) p q (only, later) holds done =
      let (r, at_edge, after_edge) = bind_ok (treat_edge g seed s clk e p) (in_turn (treat_edge g seed s clk) edges) q done in
      edges-stay edges r q later (treat_edge-stays e p r only holds at_edge) after_edge

module _ (P : Entry → Type 0) (g : EventGraph) (seed : ℕ) where
  at-last : (d c : Configuration) (time : ℕ) → (let r : OrFault Configuration = Ok d in r ≡ Ok c) → d.clock ≡ time → AllByRecursion P d.pending → (c.clock ≡ time) × AllByRecursion P c.pending
  at-last d c time e clock all = let same : d ≡ c = cc in subst (λ (c : Configuration). (c.clock ≡ time) × AllByRecursion P c.pending) same (clock, all)

  -- after an event, where Q holds of each state in which its edges are treated
  pub occur-every : (Q : State → Type 0) → Kept g Q → (v : EventVertex) (n : EntryAndRest) (s : State) (taken : List ℕ) (c : Configuration) → Q s
      → ((t : State) → Q t → AllByRecursion (λ e. SchedulesOnly P g seed t n.entry.time e e.kind) v.edges)
      → AllByRecursion P n.others → occur g seed v n s taken ≡ Ok c → (c.clock ≡ n.entry.time) × AllByRecursion P c.pending
  occur-every Q kept v n s taken c q only all done =
      let (t, at_receive, after_receive) = bind_ok (receive g v.parameters n.entry.values s) _ c done in
      let (d, at_changes, after_changes) = bind_ok (in_turn (make_change g seed n.entry.time) v.changes (record { state = t; taken = taken })) _ c after_receive in
      let (p, at_edges, at_end) = bind_ok (in_turn (treat_edge g seed d.state n.entry.time) v.edges (record { pending = n.others; taken = d.taken })) _ c after_changes in
      let holds : Q d.state = changed g Q kept seed n.entry.time v.changes (record { state = t; taken = taken }) d (received g Q kept v.parameters n.entry.values s t q at_receive) at_changes in
      let only_taken = every-map (λ e. SchedulesOnly P g seed d.state n.entry.time e e.kind) _ (λ e only. λ is_taken. only) v.edges (only d.state holds) in
      let every : AllByRecursion P p.pending = edges-stay (AllByRecursion P) P (every-stays P) g seed d.state n.entry.time v.edges (record { pending = n.others; taken = d.taken }) p only_taken all at_edges in
      at-last (record { clock = n.entry.time; state = d.state; taken = p.taken; pending = p.pending }) c n.entry.time at_end refl every
