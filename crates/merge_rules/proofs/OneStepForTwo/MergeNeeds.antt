-- What the two-for-one step needs follows from the conditions of a merge.
use Rattle.std.proofs.Common.{◌≡◌, inl, inr, ℕ, ◌==◌, ◌^◌, ◌≤◌, ℤ, Bool, true, false, not, ◌&&◌, ◌||◌, IsTrue, List, [], ◌∷◌, ◌++◌, length, None, Ok, Err, refl, sym, ◌∙◌, ap, ap₂, subst}
use Rattle.std.specs.Prelude.{position}
use Rattle.std.specs.List.{AllByRecursion, list_all}
use Rattle.std.proofs.lemmas.Iterator.Adapters.{position_from-zero}
use Rattle.sig_base.specs.declared.fault.FaultKind.{FaultKind}
use Rattle.model_core.specs.EventGraph.{EventGraph, EventVertex, EventEdge, StateChange, Watched, WatchedVariable, WatchedVertex, has_drawn_delay}
use Rattle.model_core.specs.Run.State.{State, in_range}
use Rattle.model_core.specs.Run.Value.{OrFault, ◌>>=◌, each, in_turn, value_of}
use Rattle.model_core.specs.Run.Changes.{ChangeState, make_change}
use Rattle.model_core.specs.Run.Pending.{EntryAndRest}
use Rattle.model_core.specs.Run.Edges.{EdgeState, treat_edge}
use Rattle.model_core.specs.Run.Step.{Configuration, vertex_at, receive, occur}
use Rattle.model_core.specs.Run.History.{watches}
use Rattle.model_core.specs.Static.OwnRules.{KeepsEdge, KeepsChange, KeepsParts, parameters_of}
use Rattle.model_core.specs.Rules.BoundsOfParts.{quiet_change, quiet_edge}
use Rattle.model_core.specs.Rules.MarkedPlaces.{is_among}
use Rattle.model_core.specs.Rules.Uses.{edge_reads, vertex_writes}
use Rattle.model_core.specs.Rules.UrgentEdges.{is_urgent}
use Rattle.model_core.specs.Rules.Merge.{cancels, is_watched_vertex, reads_none_of, is_unwatched, happens_unseen, set_parameters, values_at_once, other_edges}
use Rattle.model_core.proofs.BothTrue.{and_first, and_second}
use Rattle.run_laws.proofs.InRange.{in_range-kept}
use Rattle.model_core.proofs.Results.{bind_ok}
use Rattle.model_core.proofs.PlacesChanged.{apart-turned}
use Rattle.run_laws.proofs.Keeping.{received}
use Rattle.bound_laws.proofs.Soundness.NumberRows.{not_true}
use Rattle.model_core.proofs.EachOne.{every-map, every-front, every-after, every-both, every-passes, every-fails, either_false}
use Rattle.run_laws.proofs.Spared.WordsApart.{undrawn}
use Rattle.merge_rules.proofs.OneStepForTwo.UndrawnEdges.{Undrawn}
use Rattle.merge_rules.proofs.OneStepForTwo.EdgesAside.{Aside, Calm, edges-calm, urgent_edge}
use Rattle.merge_rules.proofs.SingleUrgentModels.UrgentEvents.{PriorityOk}
use Rattle.merge_rules.proofs.OneStepForTwo.TwoInOne.{set_parameters-receives}
use Rattle.merge_rules.proofs.OneStepForTwo.Unwritten.{UnwrittenBy}
use Rattle.merge_rules.proofs.SingleUrgentModels.SingleUrgent.{NeverBoth, edges_keep, priorities_above_zero, exclusive_vertices}
use Rattle.merge_rules.proofs.OneStepForTwo.MergeHolds.{Mergeable, there_is, none_found, without_one, aside_of, rest_keep, changes_keep, set_keeps_rules, values_none}
use Rattle.merge_rules.proofs.OneStepForTwo.MergedModels.{MergeFacts, Discreet, VariableUnwritten}

-- where none of these is among the others, none of the others is among these
none_among : (reads writes : List ℕ) → AllByRecursion (λ w. is_among reads w ≡ false) writes → AllByRecursion (λ v. is_among writes v ≡ false) reads
none_among [] writes apart = tt
none_among (v ∷ reads) writes apart = (
  first_apart writes (every-map (λ w. is_among (v ∷ reads) w ≡ false) (λ w. (v == w) ≡ false) (λ w e. (either_false (v == w) (is_among reads w) e).0) writes apart),
  none_among reads writes (every-map (λ w. is_among (v ∷ reads) w ≡ false) (λ w. is_among reads w ≡ false) (λ w e. (either_false (v == w) (is_among reads w) e).1) writes apart),
) where
  first_apart : (writes : List ℕ) → AllByRecursion (λ w. (v == w) ≡ false) writes → is_among writes v ≡ false
  first_apart [] all = refl
  first_apart (w ∷ writes) (here, all) = ap₂ (λ a b. a || b) (apart-turned v w here) (first_apart writes all)

-- quiet changes and edges have no fault
pub record QuietParts (g : EventGraph) : Type 0 where
  pub change : (seed clk : ℕ) (c : StateChange) (d : ChangeState) → KeepsChange g.variables (length g.tables) (parameters_of g) c → IsTrue (in_range g d.state) → clk ≤ 2 ^ 48 → quiet_change g c ≡ true → (e : ChangeState) × (make_change g seed clk c d ≡ Ok e) × IsTrue (in_range g e.state)
  pub edge : (seed clk : ℕ) (s : State) (e : EventEdge) (p : EdgeState) → KeepsEdge g.variables (length g.tables) (parameters_of g) e → IsTrue (in_range g s) → clk ≤ 2 ^ 48 → quiet_edge g e ≡ true → (q : EdgeState) × (treat_edge g seed s clk e p ≡ Ok q)

module _ (g : EventGraph) (keeps : KeepsParts g) (never : NeverBoth g) (quiet : QuietParts g) where
  abbrev Inside : State → Type 0
  Inside s = in_range g s ≡ true

  abbrev Keeps : EventEdge → Type 0
  Keeps e = KeepsEdge g.variables (length g.tables) (parameters_of g) e

  abbrev Changes : StateChange → Type 0
  Changes c = KeepsChange g.variables (length g.tables) (parameters_of g) c

  changes_fine : (seed clk : ℕ) → clk ≤ 2 ^ 48 → (cs : List StateChange) → AllByRecursion Changes cs → AllByRecursion (λ c. quiet_change g c ≡ true) cs → (d : ChangeState) → Inside d.state → (e : ChangeState) × (in_turn (make_change g seed clk) cs d ≡ Ok e) × Inside e.state
  changes_fine seed clk early [] keep calm d inside = (d, refl, inside)
  changes_fine seed clk early (c ∷ cs) (here, keep) (now, calm) d inside =
      let (e, first, there) = quiet.change seed clk c d here inside early now in
      let (f, later, end) = changes_fine seed clk early cs keep calm e there in
      (f, ap (λ (r : OrFault ChangeState). r >>= in_turn (make_change g seed clk) cs) first ∙ later, end)

  all_calm : (seed : ℕ) (s : State) → Inside s → (clk : ℕ) → clk ≤ 2 ^ 48 → (es : List EventEdge) → AllByRecursion Keeps es → AllByRecursion (λ e. quiet_edge g e ≡ true) es → AllByRecursion (Calm g seed s clk) es
  all_calm seed s inside clk early es keep quiet_ones = every-both Keeps (λ e. quiet_edge g e ≡ true) (Calm g seed s clk) (λ e keeps calm. λ p. quiet.edge seed clk s e p keeps inside early calm) es keep quiet_ones

  module _ (first second : ℕ) (h : Mergeable g first second) where
    abbrev a : EventVertex
    a = vertex_at g first

    abbrev b : EventVertex
    b = vertex_at g second

    abbrev rest : List EventEdge
    rest = h.edge.before ++ h.edge.after

    abbrev at_once : EventEdge
    at_once = urgent_edge second h.edge.values

    abbrev quiet_and_unread : EventEdge → Bool
    quiet_and_unread e = quiet_edge g e && reads_none_of (vertex_writes b) e

    rest_passes : AllByRecursion (λ e. (quiet_and_unread e && not (has_drawn_delay e)) ≡ true) rest
    rest_passes = subst (AllByRecursion (λ e. (quiet_and_unread e && not (has_drawn_delay e)) ≡ true)) h.edge.others (every-passes (λ e. quiet_and_unread e && not (has_drawn_delay e)) (other_edges a) h.others)

    rest_aside : AllByRecursion (λ (e : EventEdge). Aside second e.target e.kind) rest
    rest_aside =
        let priorities = without_one (λ (e : EventEdge). PriorityOk e.kind) h.edge.before at_once h.edge.after (subst (AllByRecursion (λ (e : EventEdge). PriorityOk e.kind)) h.edge.whole (priorities_above_zero g keeps first)) in
        let apart = without_one (λ e. cancels second e ≡ false) h.edge.before at_once h.edge.after (subst (AllByRecursion (λ e. cancels second e ≡ false)) h.edge.whole (every-fails (cancels second) a.edges h.uncancelled)) in
        every-both (λ (e : EventEdge). PriorityOk e.kind × (is_urgent e ≡ false)) (λ e. cancels second e ≡ false) (λ (e : EventEdge). Aside second e.target e.kind)
        (λ e (some, calm) apart. aside_of second e.target e.kind some calm apart) rest
        (every-both (λ (e : EventEdge). PriorityOk e.kind) (λ e. is_urgent e ≡ false) (λ (e : EventEdge). PriorityOk e.kind × (is_urgent e ≡ false)) (λ e some calm. (some, calm)) rest priorities h.edge.calm) apart

    rest_calm : (seed : ℕ) (s : State) → Inside s → (clk : ℕ) → clk ≤ 2 ^ 48 → AllByRecursion (Calm g seed s clk) rest
    rest_calm seed s inside clk early = all_calm seed s inside clk early rest (rest_keep g keeps first second h) (every-map _ (λ e. quiet_edge g e ≡ true) (λ e passes. and_first (quiet_edge g e) _ (and_first (quiet_and_unread e) _ passes)) rest rest_passes)

    rest_undrawn : AllByRecursion Undrawn rest
    rest_undrawn = every-map _ Undrawn (λ e passes. undrawn e (not_true _ (and_second (quiet_and_unread e) _ passes))) rest rest_passes

    rest_unread : AllByRecursion (λ e. AllByRecursion (UnwrittenBy b) (edge_reads e)) rest
    rest_unread = every-map _ (λ e. AllByRecursion (UnwrittenBy b) (edge_reads e)) (λ e passes. none_among (edge_reads e) (vertex_writes b) (every-fails (is_among (edge_reads e)) (vertex_writes b) (not_true _ (and_second (quiet_edge g e) _ (and_first (quiet_and_unread e) _ passes))))) rest rest_passes

    unwatched : (k : ℕ) → is_watched_vertex g k ≡ false → position (watches k) g.watch ≡ None
    unwatched k e = position_from-zero (watches k) g.watch ∙ none_found (watches k) g.watch 0 e

    -- ---- the second event, which happens unseen

    variables_unwritten : (watch : List Watched) → list_all (is_unwatched (vertex_writes b)) watch ≡ true → AllByRecursion (VariableUnwritten b) watch
    variables_unwritten [] e = tt
    variables_unwritten (WatchedVariable v ∷ watch) e = (not_true _ (and_first (is_unwatched (vertex_writes b) (WatchedVariable v)) _ e), variables_unwritten watch (and_second (is_unwatched (vertex_writes b) (WatchedVariable v)) _ e))
    variables_unwritten (WatchedVertex v ∷ watch) e = (tt, variables_unwritten watch e)

    receives : (seed clk : ℕ) → clk ≤ 2 ^ 48 → (s : State) → Inside s → (values : List ℤ) → each (value_of g s clk) h.edge.values ≡ Ok values → list_all (quiet_change g) (set_parameters b.parameters h.edge.values) ≡ true → (t : State) × (receive g b.parameters values s ≡ Ok t)
    receives seed clk early s inside values are calm =
        let (e, done, end) = changes_fine seed clk early (set_parameters b.parameters h.edge.values) (set_keeps_rules g keeps first second h) (every-passes (quiet_change g) (set_parameters b.parameters h.edge.values) calm) (record { state = s; taken = [] }) inside in
        let given = sym (set_parameters-receives g seed clk b.parameters h.edge.values (values_none g keeps first second h) (record { state = s; taken = [] })) ∙ done in
        let so = sym (ap (λ (r : OrFault (List ℤ)). r >>= λ values. receive g b.parameters values s >>= λ t. Ok (let d : ChangeState = record { state = t; taken = [] } in d)) are) ∙ given in
        let (t, is, tail) = bind_ok (receive g b.parameters values s) _ e so in
        (t, is)

    never_faults : happens_unseen g b h.edge.values ≡ true → (seed : ℕ) (n : EntryAndRest) (s : State) (taken : List ℕ) (k : FaultKind) → Inside s → n.entry.time ≤ 2 ^ 48 → each (value_of g s n.entry.time) h.edge.values ≡ Ok n.entry.values → occur g seed b n s taken ≡ Err k → ⊥
    never_faults unseen seed n s taken k inside due are faults =
        let three = and_first (list_all (is_unwatched (vertex_writes b)) g.watch && list_all (quiet_change g) (set_parameters b.parameters h.edge.values) && list_all (quiet_change g) b.changes) _ unseen in
        let two = and_first (list_all (is_unwatched (vertex_writes b)) g.watch && list_all (quiet_change g) (set_parameters b.parameters h.edge.values)) _ three in
        let clk = n.entry.time in
        let (t, got) = receives seed clk due s inside n.entry.values are (and_second (list_all (is_unwatched (vertex_writes b)) g.watch) _ two) in
        let there = received g Inside (in_range-kept g) b.parameters n.entry.values s t inside got in
        let (d, made, end) = changes_fine seed clk due b.changes (changes_keep g keeps first second h) (every-passes (quiet_change g) b.changes (and_second (list_all (is_unwatched (vertex_writes b)) g.watch && list_all (quiet_change g) (set_parameters b.parameters h.edge.values)) _ three)) (record { state = t; taken = taken }) there in
        let calm = all_calm seed d.state end clk due b.edges (edges_keep g keeps second) (every-passes (quiet_edge g) b.edges (and_second (list_all (is_unwatched (vertex_writes b)) g.watch && list_all (quiet_change g) (set_parameters b.parameters h.edge.values) && list_all (quiet_change g) b.changes) _ unseen)) in
        let (p, treated) = edges-calm g seed d.state clk b.edges calm (record { pending = n.others; taken = d.taken }) in
        let fine : occur g seed b n s taken ≡ Ok (record { clock = clk; state = d.state; taken = p.taken; pending = p.pending }) = rw (got, made, treated) refl in
        let no : Ok (let c : Configuration = record { clock = clk; state = d.state; taken = p.taken; pending = p.pending } in c) ≡ Err k = sym fine ∙ faults in
        cc

    discreet : Discreet g Inside first second h.edge.values
    discreet = chosen (is_watched_vertex g first) refl h.unseen where
      chosen : (w : Bool) → is_watched_vertex g first ≡ w → (not w || happens_unseen g b (values_at_once a)) ≡ true → Discreet g Inside first second h.edge.values
      chosen false is e = inl (unwatched first is)
      chosen true is e =
          let unseen : happens_unseen g b h.edge.values ≡ true = subst (λ values. happens_unseen g b values ≡ true) h.edge.carries e in
          let three = and_first (list_all (is_unwatched (vertex_writes b)) g.watch && list_all (quiet_change g) (set_parameters b.parameters h.edge.values) && list_all (quiet_change g) b.changes) _ unseen in
          let two = and_first (list_all (is_unwatched (vertex_writes b)) g.watch && list_all (quiet_change g) (set_parameters b.parameters h.edge.values)) _ three in
          inr (variables_unwritten g.watch (and_first (list_all (is_unwatched (vertex_writes b)) g.watch) _ two), never_faults unseen)

    pub merge_facts : MergeFacts g Inside first second h.edge.before h.edge.after h.edge.values
    merge_facts = record {
      kept = in_range-kept g;
      there = there_is g.vertices first h.exists;
      edges = h.edge.whole;
      none = values_none g keeps first second h;
      aside_before = every-front (λ (e : EventEdge). Aside second e.target e.kind) h.edge.before h.edge.after rest_aside;
      aside_after = every-after (λ (e : EventEdge). Aside second e.target e.kind) h.edge.before h.edge.after rest_aside;
      calm = λ seed s inside clk early. (every-front (Calm g seed s clk) h.edge.before h.edge.after (rest_calm seed s inside clk early), every-after (Calm g seed s clk) h.edge.before h.edge.after (rest_calm seed s inside clk early));
      undrawn = rest_undrawn;
      unread = rest_unread;
      priorities = priorities_above_zero g keeps;
      exclusive = λ k s inside clk early. exclusive_vertices g keeps never h.single k s inside clk early;
      unwatched = unwatched second h.target_unwatched;
      discreet = discreet;
    }
