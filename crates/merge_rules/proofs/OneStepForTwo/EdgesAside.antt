-- Edges that leave an event alone which is due at once: they do the same with it in the list and without, and it stays due first.
use Rattle.std.proofs.Common.{◌≡◌, ℕ, ◌<◌, ℤ, Bool, true, false, cond, ◌&&◌, ◌||◌, ◌+◌, ◌==◌, nat_lt, List, [], ◌∷◌, Ok, refl, ◌∙◌, ap, subst, arith}
use Rattle.std.proofs.lemmas.Bool.Decides.{nat_tests}
use Rattle.std.proofs.lemmas.List.{map-id}
use Rattle.model_core.specs.EventGraph.{EventGraph, EventEdge, EdgeKind, Schedule, Urgent, CancelNext, CancelEqual, CancelAll, Expression, Truth}
use Rattle.model_core.specs.Run.State.{State}
use Rattle.model_core.specs.Run.Value.{OrFault, ◌>>=◌, in_turn, value_of, is_one}
use Rattle.model_core.specs.Run.Pending.{Entry, is_of, is_event_with, same_values, without_next}
use Rattle.model_core.specs.Run.Edges.{EdgeState, delay_of, carried_values, act, treat_edge}
use Rattle.std.specs.List.{AllByRecursion}
use Rattle.model_core.proofs.EachOne.{every-append}
use Rattle.model_core.proofs.Alongside.{Alongside, both_go, bind-alongside-same, in_turn-alongside}
use Rattle.merge_rules.proofs.SingleUrgentModels.InsertedEntry.{Inserted, inserted-append, DueBefore, without_next-inserted, without_all-inserted}
use Rattle.run_laws.proofs.MappedPending.{without_next-every, without_all-every}

-- what an edge does is neither urgent nor takes an event of this vertex away
abbrev pub Aside : ℕ → ℕ → EdgeKind → Type 0
Aside vertex target (Schedule delay priority) = 0 < priority
Aside vertex target Urgent = ⊥
Aside vertex target CancelNext = (vertex == target) ≡ false
Aside vertex target CancelEqual = (vertex == target) ≡ false
Aside vertex target CancelAll = (vertex == target) ≡ false

-- the edge doesn't fault
abbrev pub Calm : EventGraph → ℕ → State → ℕ → EventEdge → Type 0
Calm g seed s clk e = (p : EdgeState) → (q : EdgeState) × (treat_edge g seed s clk e p ≡ Ok q)

-- the event that is due at once
abbrev pub urgent_entry : ℕ → ℕ → List ℤ → Entry
urgent_entry clk vertex values = record { time = clk; priority = 0; vertex = vertex; values = values }

-- the second list is the first one with that event put in, and it is due before all others. The same words were taken
pub record Pair (b : Entry) (p q : EdgeState) : Type 0 where
  pub taken : p.taken ≡ q.taken
  pub inserted : Inserted b p.pending q.pending
  pub due : AllByRecursion (DueBefore b) p.pending

due_before : (clk n priority : ℕ) → 0 < priority → (nat_lt clk (clk + n) || ((clk == clk + n) && nat_lt 0 priority)) ≡ true
due_before clk n priority some = grind (arith, nat_tests)

module _ (g : EventGraph) (seed : ℕ) (s : State) (clk vertex : ℕ) (values : List ℤ) where
  abbrev b : Entry
  b = urgent_entry clk vertex values

  taken-pair : (test : Entry → Bool) → test b ≡ false → (xs ys : List Entry) (taken : List ℕ) → Inserted b xs ys → AllByRecursion (DueBefore b) xs → Pair b (record { pending = without_next test xs; taken = taken }) (record { pending = without_next test ys; taken = taken })
  taken-pair test fails xs ys taken i due = record { taken = refl; inserted = without_next-inserted b test fails i; due = without_next-every (DueBefore b) test xs due }

  act-pair : (e : EventEdge) (kind : EdgeKind) → Aside vertex e.target kind → (xs ys : List Entry) (taken : List ℕ) → Inserted b xs ys → AllByRecursion (DueBefore b) xs → Alongside (Pair b) (act g seed s clk e kind (record { pending = xs; taken = taken })) (act g seed s clk e kind (record { pending = ys; taken = taken }))
  act-pair e (Schedule delay priority) aside xs ys taken i due =
      bind-alongside-same (Pair b) (delay_of g seed s clk delay taken) _ _ (λ wait a.
      bind-alongside-same (Pair b) (carried_values g s clk e) _ _ (λ carried c.
      both_go (record { taken = refl; inserted = inserted-append b i _; due = every-append (DueBefore b) xs _ due (due_before clk wait.ticks priority aside) })))
  act-pair e Urgent aside xs ys taken i due = absurd aside
  act-pair e CancelNext aside xs ys taken i due = both_go (taken-pair (is_of e.target) aside xs ys taken i due)
  act-pair e CancelEqual aside xs ys taken i due =
      bind-alongside-same (Pair b) (carried_values g s clk e) _ _ (λ carried c.
      both_go (taken-pair (is_event_with e.target carried) (ap (λ b. b && same_values values carried) aside) xs ys taken i due))
  act-pair e CancelAll aside xs ys taken i due =
      both_go (record { taken = refl; inserted = without_all-inserted b (is_of e.target) aside i; due = without_all-every (DueBefore b) (is_of e.target) xs due })

  acts-or-not : (e : EventEdge) → Aside vertex e.target e.kind → (c : Bool) (xs ys : List Entry) (taken : List ℕ) → Inserted b xs ys → AllByRecursion (DueBefore b) xs → (let p : EdgeState = record { pending = xs; taken = taken } in let q : EdgeState = record { pending = ys; taken = taken } in Alongside (Pair b) (cond c (act g seed s clk e e.kind p) (Ok p)) (cond c (act g seed s clk e e.kind q) (Ok q)))
  acts-or-not e aside true xs ys taken i due = act-pair e e.kind aside xs ys taken i due
  acts-or-not e aside false xs ys taken i due = both_go (record { taken = refl; inserted = i; due = due })

  treat_edge-pair : (e : EventEdge) → Aside vertex e.target e.kind → (p q : EdgeState) → Pair b p q → Alongside (Pair b) (treat_edge g seed s clk e p) (treat_edge g seed s clk e q)
  treat_edge-pair e aside p q pair =
      subst (λ taken. Alongside (Pair b) (treat_edge g seed s clk e p) (treat_edge g seed s clk e (record q { taken = taken }))) pair.taken
      (bind-alongside-same (Pair b) (value_of g s clk e.condition) _ _ (λ c a. acts-or-not e aside (is_one c) p.pending q.pending p.taken pair.inserted pair.due))

  pub edges-pair : (es : List EventEdge) → AllByRecursion (λ (e : EventEdge). Aside vertex e.target e.kind) es → (p q : EdgeState) → Pair b p q → Alongside (Pair b) (in_turn (treat_edge g seed s clk) es p) (in_turn (treat_edge g seed s clk) es q)
  edges-pair es aside p q pair =
      subst (λ (fs : List EventEdge). Alongside (Pair b) (in_turn (treat_edge g seed s clk) es p) (in_turn (treat_edge g seed s clk) fs q)) (map-id es)
      (in_turn-alongside (λ (e : EventEdge). Aside vertex e.target e.kind) (λ e. e) (Pair b) (treat_edge g seed s clk) (treat_edge g seed s clk) treat_edge-pair es aside p q pair)

-- edges that don't fault
pub edges-calm : (g : EventGraph) (seed : ℕ) (s : State) (clk : ℕ) (es : List EventEdge) → AllByRecursion (Calm g seed s clk) es → (p : EdgeState) → (q : EdgeState) × (in_turn (treat_edge g seed s clk) es p ≡ Ok q)
edges-calm g seed s clk [] calm p = (p, refl)
edges-calm g seed s clk (e ∷ es) (now, calm) p =
    let (q, first) = now p in
    let (r, later) = edges-calm g seed s clk es calm q in
    (r, ap (λ (r : OrFault EdgeState). r >>= in_turn (treat_edge g seed s clk) es) first ∙ later)

-- the plain urgent edge
abbrev pub urgent_edge : ℕ → List Expression → EventEdge
urgent_edge vertex values = record { target = vertex; values = values; condition = Truth true; kind = Urgent }
