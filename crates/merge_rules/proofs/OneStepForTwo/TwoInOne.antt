-- One event in place of two: the merged event does what the first does and then the second.
use Rattle.std.proofs.Common.{◌≡◌, ℕ, ℤ, List, [], ◌∷◌, ◌++◌, map, zip, Some, Ok, Err, refl, sym, ◌∙◌, ap, subst}
use Rattle.sig_base.specs.declared.fault.FaultKind.{FaultKind}
use Rattle.model_core.specs.EventGraph.{EventGraph, EventVertex, EventEdge, Expression, StateChange, scalar_location}
use Rattle.model_core.specs.Run.State.{State, Place, scalar}
use Rattle.model_core.specs.Run.Value.{OrFault, ◌>>=◌, each, in_turn, value_of, place_of}
use Rattle.model_core.specs.Run.Changes.{ChangeState, store, make_change}
use Rattle.model_core.specs.Run.Pending.{Entry, EntryAndRest, next_entry}
use Rattle.model_core.specs.Run.Edges.{EdgeState, scheduled, treat_edge}
use Rattle.model_core.specs.Run.Step.{Configuration, vertex_at, receive, occur}
use Rattle.model_core.specs.Rules.Merge.{set_parameters}
use Rattle.model_core.proofs.Results.{bind_unit, bind_same, in_turn-append}
use Rattle.std.specs.List.{AllByRecursion}
use Rattle.model_core.proofs.Alongside.{Alongside, both_go, both_fail}
use Rattle.merge_rules.proofs.OneStepForTwo.UndrawnEdges.{Undrawn, edges-undrawn, words-kept}
use Rattle.merge_rules.proofs.SingleUrgentModels.InsertedEntry.{inserted_last, DueBefore, next_entry-inserted}
use Rattle.merge_rules.proofs.OneStepForTwo.EdgesAside.{Aside, Calm, urgent_entry, Pair, edges-pair, edges-calm, urgent_edge}

bind-assoc : {A B C : Type 0} (r : OrFault A) (f : A → OrFault B) (h : B → OrFault C) → ((r >>= f) >>= h) ≡ (r >>= λ a. f a >>= h)
bind-assoc (Ok a) f h = refl
bind-assoc (Err k) f h = refl

alongside-ok : {S T : Type 0} (R : S → T → Type 0) {r : OrFault S} {q : OrFault T} → Alongside R r q → (s : S) → r ≡ Ok s → (t : T) × (q ≡ Ok t) × R s t
alongside-ok R (both_go {s = u} {t = t} rel) s e =
    let same : u ≡ s = cc in (t, refl, subst (λ s. R s t) same rel)
alongside-ok R (both_fail k) s e = cc

-- the plain urgent edge, with the values that it carries
module _ (g : EventGraph) (seed : ℕ) (s : State) (clk vertex : ℕ) (rights : List Expression) (before after : List EventEdge) where
  abbrev T : EventEdge → EdgeState → OrFault EdgeState
  T = treat_edge g seed s clk

  through-it : (o : OrFault (List ℤ)) → each (value_of g s clk) rights ≡ o → (p q : EdgeState) → in_turn T before p ≡ Ok q → in_turn T (before ++ urgent_edge vertex rights ∷ after) p ≡ (o >>= λ values. in_turn T after (record q { pending = q.pending ++ urgent_entry clk vertex values ∷ [] }))
  through-it o are p q first =
      in_turn-append T before (urgent_edge vertex rights ∷ after) p ∙
      (ap (λ (r : OrFault EdgeState). r >>= in_turn T (urgent_edge vertex rights ∷ after)) first ∙
      (ap (λ (r : OrFault (List ℤ)). (r >>= λ values. Ok (let q : EdgeState = record q { pending = scheduled clk 0 vertex q.pending values } in q)) >>= in_turn T after) are ∙
      bind-assoc o _ (in_turn T after)))

-- the edges of the first event, with its plain urgent edge and without
record Both (g : EventGraph) (seed : ℕ) (s : State) (clk vertex : ℕ) (values : List ℤ) (whole rest : List EventEdge) (p : EdgeState) : Type 0 where
  with_it : EdgeState
  without_it : EdgeState
  to_with : in_turn (treat_edge g seed s clk) whole p ≡ Ok with_it
  to_without : in_turn (treat_edge g seed s clk) rest p ≡ Ok without_it
  same_taken : without_it.taken ≡ with_it.taken
  next_is : next_entry with_it.pending ≡ Some (record { entry = urgent_entry clk vertex values; others = without_it.pending })

both-edges : (g : EventGraph) (seed : ℕ) (s : State) (clk vertex : ℕ) (rights : List Expression) (values : List ℤ) → each (value_of g s clk) rights ≡ Ok values → (before after : List EventEdge) → AllByRecursion (λ (e : EventEdge). Aside vertex e.target e.kind) before → AllByRecursion (λ (e : EventEdge). Aside vertex e.target e.kind) after → AllByRecursion (Calm g seed s clk) before → AllByRecursion (Calm g seed s clk) after → (p : EdgeState) → AllByRecursion (DueBefore (urgent_entry clk vertex values)) p.pending → Both g seed s clk vertex values (before ++ urgent_edge vertex rights ∷ after) (before ++ after) p
both-edges g seed s clk vertex rights values are before after aside_before aside_after calm_before calm_after p due =
    let b = urgent_entry clk vertex values in
    let put_in : EdgeState → EdgeState = λ p. record p { pending = p.pending ++ b ∷ [] } in
    let T : EventEdge → EdgeState → OrFault EdgeState = treat_edge g seed s clk in
    let (p1, first) = edges-calm g seed s clk before calm_before p in
    let (q, last) = edges-calm g seed s clk after calm_after p1 in
    let (_, _, pair1) = alongside-ok (Pair b) (edges-pair g seed s clk vertex values before aside_before p (put_in p) (record { taken = refl; inserted = inserted_last b p.pending; due = due })) p1 first in
    let (w, w_is, pair2) = alongside-ok (Pair b) (edges-pair g seed s clk vertex values after aside_after p1 (put_in p1) (record { taken = refl; inserted = inserted_last b p1.pending; due = pair1.due })) q last in
    record {
      with_it = w;
      without_it = q;
      to_with = through-it g seed s clk vertex rights before after (Ok values) are p p1 first ∙ w_is;
      to_without = in_turn-append T before after p ∙ (ap (λ (r : OrFault EdgeState). r >>= in_turn T after) first ∙ last);
      same_taken = pair2.taken;
      next_is = next_entry-inserted b pair2.inserted pair2.due;
    }

fault-edges : (g : EventGraph) (seed : ℕ) (s : State) (clk vertex : ℕ) (rights : List Expression) (k : FaultKind) → each (value_of g s clk) rights ≡ Err k → (before after : List EventEdge) → AllByRecursion (Calm g seed s clk) before → (p : EdgeState) → in_turn (treat_edge g seed s clk) (before ++ urgent_edge vertex rights ∷ after) p ≡ Err k
fault-edges g seed s clk vertex rights k are before after calm p =
    let (p1, first) = edges-calm g seed s clk before calm p in
    through-it g seed s clk vertex rights before after (Err k) are p p1 first

places-are : (g : EventGraph) (s : State) (clk : ℕ) (vs : List ℕ) → each (place_of g s clk) (map scalar_location vs) ≡ Ok (map scalar vs)
places-are g s clk [] = refl
places-are g s clk (v ∷ vs) = ap (λ (r : OrFault (List Place)). r >>= λ ps. Ok (scalar v ∷ ps)) (places-are g s clk vs)

pub set_parameters-receives : (g : EventGraph) (seed clk : ℕ) (vs : List ℕ) (rights : List Expression) → (vs ≡ [] → rights ≡ []) → (d : ChangeState) → in_turn (make_change g seed clk) (set_parameters vs rights) d ≡ (each (value_of g d.state clk) rights >>= λ values. receive g vs values d.state >>= λ t. Ok (record { state = t; taken = d.taken }))
set_parameters-receives g seed clk [] rights none d = ap (λ rights. each (value_of g d.state clk) rights >>= λ values. Ok d) (sym (none refl))
set_parameters-receives g seed clk (v ∷ vs) rights none d =
    bind_unit _ ∙ (bind-assoc (each (value_of g d.state clk) rights) (λ values. each (place_of g d.state clk) (map scalar_location (v ∷ vs)) >>= λ places. in_turn (store g) (zip places values) d.state) (λ t. Ok (record d { state = t })) ∙
    bind_same (each (value_of g d.state clk) rights) _ _ (λ values e. ap (λ (r : OrFault (List Place)). (r >>= λ places. in_turn (store g) (zip places values) d.state) >>= λ t. Ok (record d { state = t })) (places-are g d.state clk (v ∷ vs))))

-- ---- the two events and the merged one

-- the merged event faults as the first does, or the next event is the second and gives what the merged one gives
pub data Split (g : EventGraph) (seed second : ℕ) (rights : List Expression) (clk : ℕ) : OrFault Configuration → OrFault Configuration → Type 0 where
  faults : (k : FaultKind) → Split g seed second rights clk (Err k) (Err k)
  goes_on : (c : Configuration) (n : EntryAndRest) → c.clock ≡ clk → each (value_of g c.state clk) rights ≡ Ok n.entry.values → next_entry c.pending ≡ Some n → n.entry.vertex ≡ second → n.entry.time ≡ clk → (r : OrFault Configuration) → occur g seed (vertex_at g second) n c.state c.taken ≡ r → Split g seed second rights clk (Ok c) r

bind-split : {A : Type 0} (g : EventGraph) (seed second : ℕ) (rights : List Expression) (clk : ℕ) (r : OrFault A) (f h : A → OrFault Configuration) → ((a : A) → r ≡ Ok a → Split g seed second rights clk (f a) (h a)) → Split g seed second rights clk (r >>= f) (r >>= h)
bind-split g seed second rights clk (Ok a) f h next = next a refl
bind-split g seed second rights clk (Err k) f h next = faults k

same-edges : (g : EventGraph) (seed : ℕ) (s t : State) (clk : ℕ) (es : List EventEdge) → AllByRecursion (λ (e : EventEdge). (p : EdgeState) → treat_edge g seed s clk e p ≡ treat_edge g seed t clk e p) es → (p : EdgeState) → in_turn (treat_edge g seed s clk) es p ≡ in_turn (treat_edge g seed t clk) es p
same-edges g seed s t clk [] same p = refl
same-edges g seed s t clk (e ∷ es) (now, same) p =
    ap (λ (r : OrFault EdgeState). r >>= in_turn (treat_edge g seed s clk) es) (now p) ∙ bind_same (treat_edge g seed t clk e p) (in_turn (treat_edge g seed s clk) es) (in_turn (treat_edge g seed t clk) es) (λ q e. same-edges g seed s t clk es same q)

-- the vertex with the changes and edges of the second one in place of its plain urgent edge
abbrev pub joined_vertex : EventVertex → List EventEdge → List Expression → EventVertex → EventVertex
joined_vertex v others rights b = record { name = v.name; parameters = v.parameters; changes = v.changes ++ (set_parameters b.parameters rights ++ b.changes); edges = others ++ b.edges }

module _ (g : EventGraph) (seed second : ℕ) (v : EventVertex) (before after : List EventEdge) (rights : List Expression) (clk : ℕ) where
  abbrev b : EventVertex
  b = vertex_at g second

  -- the configuration after the edges
  abbrev at_end : State → EdgeState → OrFault Configuration
  at_end s q = Ok (record { clock = clk; state = s; taken = q.taken; pending = q.pending })

  -- what follows the changes: the edges, and the configuration
  abbrev ending : List EventEdge → List Entry → ChangeState → OrFault Configuration
  ending es p d = in_turn (treat_edge g seed d.state clk) es (record { pending = p; taken = d.taken }) >>= at_end d.state

  abbrev Unread : ChangeState → Type 0
  Unread d = (values : List ℤ) (t : State) (d2 : ChangeState) → receive g b.parameters values d.state ≡ Ok t → in_turn (make_change g seed clk) b.changes (record { state = t; taken = d.taken }) ≡ Ok d2 → AllByRecursion (λ (e : EventEdge). (p : EdgeState) → treat_edge g seed d.state clk e p ≡ treat_edge g seed d2.state clk e p) (before ++ after)

  -- an event with these carried values, at the clock
  abbrev occurring : EventVertex → List ℤ → List Entry → State → List ℕ → OrFault Configuration
  occurring v carried p s taken = receive g v.parameters carried s >>= λ t. in_turn (make_change g seed clk) v.changes (record { state = t; taken = taken }) >>= ending v.edges p

  -- where the other edges don't fault after the changes, and read nothing that the second event writes
  abbrev pub CalmAfterChanges : List ℤ → State → List ℕ → Type 0
  CalmAfterChanges carried s taken = (t : State) (d : ChangeState) → receive g v.parameters carried s ≡ Ok t → in_turn (make_change g seed clk) v.changes (record { state = t; taken = taken }) ≡ Ok d → AllByRecursion (Calm g seed d.state clk) before × AllByRecursion (Calm g seed d.state clk) after × Unread d

  module _
      (aside_before : AllByRecursion (λ (e : EventEdge). Aside second e.target e.kind) before)
      (aside_after : AllByRecursion (λ (e : EventEdge). Aside second e.target e.kind) after)
      (undrawn : AllByRecursion Undrawn (before ++ after))
      (whole : v.edges ≡ before ++ urgent_edge second rights ∷ after)
      (none : (vertex_at g second).parameters ≡ [] → rights ≡ []) where
    tail-split : (d : ChangeState) (p : List Entry) → AllByRecursion (Calm g seed d.state clk) before → AllByRecursion (Calm g seed d.state clk) after → Unread d → AllByRecursion (DueBefore (urgent_entry clk second [])) p → (o : OrFault (List ℤ)) → each (value_of g d.state clk) rights ≡ o → Split g seed second rights clk (ending (before ++ urgent_edge second rights ∷ after) p d) (o >>= λ values. receive g b.parameters values d.state >>= λ t. in_turn (make_change g seed clk) b.changes (record { state = t; taken = d.taken }) >>= ending ((before ++ after) ++ b.edges) p)
    tail-split d p calm_before calm_after unread due (Err k) are =
        subst (λ (r : OrFault EdgeState). Split g seed second rights clk (r >>= at_end d.state) (Err k)) (sym (fault-edges g seed d.state clk second rights k are before after calm_before (record { pending = p; taken = d.taken }))) (faults k)
    tail-split d p calm_before calm_after unread due (Ok values) are =
        let start : EdgeState = record { pending = p; taken = d.taken } in
        let both = both-edges g seed d.state clk second rights values are before after aside_before aside_after calm_before calm_after start due in
        let off : EntryAndRest = record { entry = urgent_entry clk second values; others = both.without_it.pending } in
        let merged_end = ending ((before ++ after) ++ b.edges) p in
        let then_second : occur g seed b off d.state d.taken ≡ (receive g b.parameters values d.state >>= λ t. in_turn (make_change g seed clk) b.changes (record { state = t; taken = d.taken }) >>= merged_end) =
        bind_same (receive g b.parameters values d.state) _ _ (λ t received.
        bind_same (in_turn (make_change g seed clk) b.changes (record { state = t; taken = d.taken })) _ _ (λ d2 changed.
        let treat_then : EventEdge → EdgeState → OrFault EdgeState = treat_edge g seed d2.state clk in
        let mid : EdgeState = record { pending = p; taken = d2.taken } in
        let rest_same : in_turn treat_then (before ++ after) mid ≡ Ok (record { pending = both.without_it.pending; taken = d2.taken }) =
        sym (same-edges g seed d.state d2.state clk (before ++ after) (unread values t d2 received changed) mid) ∙ edges-undrawn g seed d.state clk (before ++ after) undrawn start both.without_it both.to_without d2.taken in
        let edges_same : in_turn treat_then ((before ++ after) ++ b.edges) mid ≡ in_turn treat_then b.edges (record { pending = both.without_it.pending; taken = d2.taken }) =
        in_turn-append treat_then (before ++ after) b.edges mid ∙ ap (λ (r : OrFault EdgeState). r >>= in_turn treat_then b.edges) rest_same in
        ap (λ (r : OrFault EdgeState). r >>= at_end d2.state) (sym edges_same))) in
        let kept : d.taken ≡ both.with_it.taken = words-kept g seed d.state clk (before ++ after) undrawn start both.without_it both.to_without ∙ both.same_taken in
        let to_with : ending (before ++ urgent_edge second rights ∷ after) p d ≡ Ok (record { clock = clk; state = d.state; taken = d.taken; pending = both.with_it.pending }) =
        ap (λ (r : OrFault EdgeState). r >>= at_end d.state) both.to_with ∙ ap (λ (taken : List ℕ). at_end d.state (record both.with_it { taken = taken })) (sym kept) in
        subst (λ (r : OrFault Configuration). Split g seed second rights clk r (receive g b.parameters values d.state >>= λ t. in_turn (make_change g seed clk) b.changes (record { state = t; taken = d.taken }) >>= merged_end)) (sym to_with)
        (goes_on (record { clock = clk; state = d.state; taken = d.taken; pending = both.with_it.pending }) off refl are both.next_is refl refl _ then_second)

    carried-first : (d : ChangeState) (p : List Entry) → (in_turn (make_change g seed clk) (set_parameters b.parameters rights ++ b.changes) d >>= ending ((before ++ after) ++ b.edges) p) ≡ (each (value_of g d.state clk) rights >>= λ values. receive g b.parameters values d.state >>= λ t. in_turn (make_change g seed clk) b.changes (record { state = t; taken = d.taken }) >>= ending ((before ++ after) ++ b.edges) p)
    carried-first d p =
        let mk : StateChange → ChangeState → OrFault ChangeState = make_change g seed clk in
        let end : ChangeState → OrFault Configuration = ending ((before ++ after) ++ b.edges) p in
        ap (λ (r : OrFault ChangeState). r >>= end) (in_turn-append mk (set_parameters b.parameters rights) b.changes d ∙ ap (λ (r : OrFault ChangeState). r >>= in_turn mk b.changes) (set_parameters-receives g seed clk b.parameters rights none d)) ∙
        (ap (λ (r : OrFault ChangeState). r >>= end) (bind-assoc (each (value_of g d.state clk) rights) _ (in_turn mk b.changes) ∙ bind_same (each (value_of g d.state clk) rights) _ _ (λ values e. bind-assoc (receive g b.parameters values d.state) _ (in_turn mk b.changes))) ∙
        (bind-assoc (each (value_of g d.state clk) rights) _ end ∙ bind_same (each (value_of g d.state clk) rights) _ _ (λ values e. bind-assoc (receive g b.parameters values d.state) _ end)))

    pub occurring-splits : (carried : List ℤ) (p : List Entry) (s : State) (taken : List ℕ) → AllByRecursion (DueBefore (urgent_entry clk second [])) p → CalmAfterChanges carried s taken → Split g seed second rights clk (occurring v carried p s taken) (occurring (joined_vertex v (before ++ after) rights b) carried p s taken)
    occurring-splits carried p s taken due calm_edges =
        bind-split g seed second rights clk (receive g v.parameters carried s) _ _ (λ t received.
        let D : ChangeState = record { state = t; taken = taken } in
        let mk : StateChange → ChangeState → OrFault ChangeState = make_change g seed clk in
        let end : ChangeState → OrFault Configuration = ending ((before ++ after) ++ b.edges) p in
        let more : List StateChange = set_parameters b.parameters rights ++ b.changes in
        let apart : (in_turn mk (v.changes ++ more) D >>= end) ≡ (in_turn mk v.changes D >>= λ d. in_turn mk more d >>= end) = ap (λ (r : OrFault ChangeState). r >>= end) (in_turn-append mk v.changes more D) ∙ bind-assoc (in_turn mk v.changes D) (in_turn mk more) end in
        subst (λ (r : OrFault Configuration). Split g seed second rights clk (in_turn mk v.changes D >>= ending v.edges p) r) (sym apart)
        (bind-split g seed second rights clk (in_turn mk v.changes D) _ _ (λ d changed.
        let (calm_before, calm_after, unread) = calm_edges t d received changed in
        subst (λ (es : List EventEdge). Split g seed second rights clk (ending es p d) (in_turn mk more d >>= end)) (sym whole)
        (subst (λ (r : OrFault Configuration). Split g seed second rights clk (ending (before ++ urgent_edge second rights ∷ after) p d) r) (sym (carried-first d p))
        (tail-split d p calm_before calm_after unread due (each (value_of g d.state clk) rights) refl)))))

-- the merged event at an entry that was taken off
pub merged-splits : (g : EventGraph) (seed second : ℕ) (v : EventVertex) (before after : List EventEdge) (rights : List Expression) (n : EntryAndRest) (s : State) (taken : List ℕ) → AllByRecursion (λ (e : EventEdge). Aside second e.target e.kind) before → AllByRecursion (λ (e : EventEdge). Aside second e.target e.kind) after → AllByRecursion Undrawn (before ++ after) → v.edges ≡ before ++ urgent_edge second rights ∷ after → ((vertex_at g second).parameters ≡ [] → rights ≡ []) → AllByRecursion (DueBefore (urgent_entry n.entry.time second [])) n.others → CalmAfterChanges g seed second v before after rights n.entry.time n.entry.values s taken → Split g seed second rights n.entry.time (occur g seed v n s taken) (occur g seed (joined_vertex v (before ++ after) rights (vertex_at g second)) n s taken)
merged-splits g seed second v before after rights n s taken aside_before aside_after undrawn whole none due calm_edges =
    occurring-splits g seed second v before after rights n.entry.time aside_before aside_after undrawn whole none n.entry.values n.others s taken due calm_edges
