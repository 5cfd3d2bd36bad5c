-- Vertices may be mapped to those of another model that do the same: where live ones lead to live ones alone, and those
-- that are watched or cancelled keep apart from all live ones, the runs stay the same.
use Rattle.std.proofs.Common.{◌≡◌, ◌≤◌, ◌^◌, ℕ, ℤ, Bool, true, false, not, cond, ◌&&◌, ◌+◌, ◌==◌, nat_lt, List, [], ◌∷◌, map, slice_index_or, Some, None, Ok, refl, sym, ◌∙◌, ap, ap₂, subst, arith}
use Rattle.std.proofs.lemmas.Bool.Decides.{nat_tests}
use Rattle.std.proofs.lemmas.List.{map-append, length-map}
use Rattle.std.specs.Prelude.{position, replicate}
use Rattle.std.specs.List.{AllByRecursion, prefix_len}
use Rattle.model_core.specs.EventGraph.{EventGraph, EventVertex, EventEdge, EdgeKind, Schedule, Urgent, CancelNext, CancelEqual, CancelAll, Watched, WatchedVariable, WatchedVertex}
use Rattle.model_core.specs.Run.State.{State, variable_at, cells_of, initial_state}
use Rattle.model_core.specs.Run.Value.{in_turn, value_of, is_one}
use Rattle.model_core.specs.Run.Changes.{make_change}
use Rattle.model_core.specs.Run.Pending.{Entry, EntryAndRest, is_of, is_event_with, same_values}
use Rattle.model_core.specs.Run.Edges.{EdgeState, delay_of, carried_values, scheduled, act, treat_edge}
use Rattle.model_core.specs.Run.Step.{Configuration, no_vertex, vertex_at, receive, occur}
use Rattle.model_core.specs.Run.History.{Moment, watched_values, watches, look}
use Rattle.model_core.specs.Run.Same.{Same, SameLooks, watched_name_of, VertexNamed, parameter}
use Rattle.model_core.specs.Rules.Drop.{edge_renumbered, watched_renumbered}
use Rattle.model_core.proofs.Alongside.{Alongside, both_go, bind-alongside, bind-alongside-same, in_turn-alongside}
use Rattle.model_core.proofs.EachOne.{every-map, every-append}
use Rattle.run_laws.proofs.MappedPending.{KeepsDue, taken_off_mapped, without_next-mapped, without_all-mapped, next_among-every, without_next-every, without_all-every}
use Rattle.run_laws.proofs.LockStep.{entry_mapped, configuration_mapped, Follows, follows-looks}

-- the graph with these vertices, and the watch list mapped
abbrev pub with_mapped : EventGraph → (ℕ → ℕ) → List EventVertex → EventGraph
with_mapped g f vertices = record g { watch = map (watched_renumbered f) g.watch; vertices = vertices }

-- w does what v does, with the targets of its edges mapped
pub record BehavesAs (f : ℕ → ℕ) (v w : EventVertex) : Type 0 where
  pub parameters : v.parameters ≡ w.parameters
  pub changes : v.changes ≡ w.changes
  pub edges : map (edge_renumbered f) v.edges ≡ w.edges

-- a vertex that is watched is one of these
abbrev pub WatchedAreApart : (ℕ → Type 0) → Watched → Type 0
WatchedAreApart SetApart (WatchedVariable v) = Unit {0}
WatchedAreApart SetApart (WatchedVertex v) = SetApart v

-- an edge that schedules leads to a live vertex, and one that cancels to one that keeps apart
abbrev pub LeadsToMapped : (Live SetApart : ℕ → Type 0) → EdgeKind → ℕ → Type 0
LeadsToMapped Live SetApart (Schedule delay priority) t = Live t
LeadsToMapped Live SetApart Urgent t = Live t
LeadsToMapped Live SetApart kind t = SetApart t

-- f maps each live vertex to one that does the same, and keeps those that are watched or cancelled apart from live ones
pub record Mapping (g : EventGraph) (f : ℕ → ℕ) (vertices : List EventVertex) (Live SetApart : ℕ → Type 0) : Type 0 where
  pub apart : (t : ℕ) → SetApart t → (k : ℕ) → Live k → (f k == f t) ≡ (k == t)
  pub does : (k : ℕ) → Live k → BehavesAs f (vertex_at g k) (slice_index_or vertices (f k) no_vertex)
  pub names : (k : ℕ) → SetApart k → (vertex_at g k).name ≡ (slice_index_or vertices (f k) no_vertex).name
  pub closed : (k : ℕ) → Live k → AllByRecursion (λ (e : EventEdge). LeadsToMapped Live SetApart e.kind e.target) (vertex_at g k).edges
  pub first : f 0 ≡ 0
  pub first_live : Live 0
  pub watched : AllByRecursion (WatchedAreApart SetApart) g.watch

watched_values-mapped : (f : ℕ → ℕ) (watch : List Watched) (s : State) → watched_values (map (watched_renumbered f) watch) s ≡ watched_values watch s
watched_values-mapped f [] s = refl
watched_values-mapped f (WatchedVariable v ∷ watch) s = ap (λ (vs : List (List ℤ)). cells_of s v ∷ vs) (watched_values-mapped f watch s)
watched_values-mapped f (WatchedVertex v ∷ watch) s = watched_values-mapped f watch s

pub turned : (a b : ℕ) → (a == b) ≡ (b == a)
turned a b = grind (arith, nat_tests)

module _ (g : EventGraph) (f : ℕ → ℕ) (vertices : List EventVertex) (Live SetApart : ℕ → Type 0) (ok : Mapping g f vertices Live SetApart) where
  abbrev h : EventGraph
  h = with_mapped g f vertices

  abbrev r : Entry → Entry
  r = entry_mapped f (λ e. e.values)

  abbrev LiveEntry : Entry → Type 0
  LiveEntry e = Live e.vertex

  abbrev planned_mapped : EdgeState → EdgeState
  planned_mapped p = record { pending = map r p.pending; taken = p.taken }

  -- the one plan is the other one, mapped, and all in it are live
  abbrev Plans : EdgeState → EdgeState → Type 0
  Plans p q = (planned_mapped p ≡ q) × AllByRecursion LiveEntry p.pending

  keeps_due : KeepsDue r
  keeps_due = record { times = λ e. refl; priorities = λ e. refl }

  -- ---- edges

  of-same : (t : ℕ) → SetApart t → (p : List Entry) → AllByRecursion LiveEntry p → AllByRecursion (λ e. is_of (f t) (r e) ≡ is_of t e) p
  of-same t kept_apart p all = every-map LiveEntry (λ e. is_of (f t) (r e) ≡ is_of t e) (λ e live. ok.apart t kept_apart e.vertex live) p all

  with-same : (t : ℕ) (values : List ℤ) → SetApart t → (p : List Entry) → AllByRecursion LiveEntry p → AllByRecursion (λ e. is_event_with (f t) values (r e) ≡ is_event_with t values e) p
  with-same t values kept_apart p all = every-map LiveEntry (λ e. is_event_with (f t) values (r e) ≡ is_event_with t values e) (λ e live. ap (λ b. b && same_values e.values values) (ok.apart t kept_apart e.vertex live)) p all

  scheduled-alongside : (time priority t : ℕ) (values : List ℤ) (taken : List ℕ) → Live t → (p : List Entry) → AllByRecursion LiveEntry p → Alongside Plans (Ok (record { pending = scheduled time priority t p values; taken = taken })) (Ok (record { pending = scheduled time priority (f t) (map r p) values; taken = taken }))
  scheduled-alongside time priority t values taken live p all =
      both_go (ap (λ (l : List Entry). record { pending = l; taken = taken }) (map-append r p _), every-append LiveEntry p _ all live)

  act-alongside : (seed : ℕ) (s : State) (clk : ℕ) (e : EventEdge) (kind : EdgeKind) → LeadsToMapped Live SetApart kind e.target → (p : EdgeState) → AllByRecursion LiveEntry p.pending → Alongside Plans (act g seed s clk e kind p) (act h seed s clk (edge_renumbered f e) kind (planned_mapped p))
  act-alongside seed s clk e (Schedule delay priority) may p all =
      bind-alongside-same Plans (delay_of g seed s clk delay p.taken) _ _ (λ wait a.
      bind-alongside-same Plans (carried_values g s clk e) _ _ (λ values c.
      scheduled-alongside (clk + wait.ticks) priority e.target values wait.taken may p.pending all))
  act-alongside seed s clk e Urgent may p all =
      bind-alongside-same Plans (carried_values g s clk e) _ _ (λ values c.
      scheduled-alongside clk 0 e.target values p.taken may p.pending all)
  act-alongside seed s clk e CancelNext may p all =
      both_go (ap (λ (l : List Entry). record p { pending = l }) (sym (without_next-mapped r keeps_due (is_of e.target) (is_of (f e.target)) p.pending (of-same e.target may p.pending all))), without_next-every LiveEntry (is_of e.target) p.pending all)
  act-alongside seed s clk e CancelEqual may p all =
      bind-alongside-same Plans (carried_values g s clk e) _ _ (λ values c.
      both_go (ap (λ (l : List Entry). record p { pending = l }) (sym (without_next-mapped r keeps_due (is_event_with e.target values) (is_event_with (f e.target) values) p.pending (with-same e.target values may p.pending all))), without_next-every LiveEntry (is_event_with e.target values) p.pending all))
  act-alongside seed s clk e CancelAll may p all =
      both_go (ap (λ (l : List Entry). record p { pending = l }) (sym (without_all-mapped r (is_of e.target) (is_of (f e.target)) p.pending (of-same e.target may p.pending all))), without_all-every LiveEntry (is_of e.target) p.pending all)

  treat_edge-mapped : (seed : ℕ) (s : State) (clk : ℕ) (e : EventEdge) → LeadsToMapped Live SetApart e.kind e.target → (p : EdgeState) → AllByRecursion LiveEntry p.pending → Alongside Plans (treat_edge g seed s clk e p) (treat_edge h seed s clk (edge_renumbered f e) (planned_mapped p))
  treat_edge-mapped seed s clk e may p all =
      bind-alongside-same Plans (value_of g s clk e.condition) _ _ (λ c a. tested (is_one c)) where
        tested : (b : Bool) → Alongside Plans (cond b (act g seed s clk e e.kind p) (Ok p)) (cond b (act h seed s clk (edge_renumbered f e) e.kind (planned_mapped p)) (Ok (planned_mapped p)))
        tested true = act-alongside seed s clk e e.kind may p all
        tested false = both_go (refl, all)

  treat_edge-alongside : (seed : ℕ) (s : State) (clk : ℕ) (e : EventEdge) → LeadsToMapped Live SetApart e.kind e.target → (p q : EdgeState) → Plans p q → Alongside Plans (treat_edge g seed s clk e p) (treat_edge h seed s clk (edge_renumbered f e) q)
  treat_edge-alongside seed s clk e may p q (same, all) =
      subst (λ (q : EdgeState). Alongside Plans (treat_edge g seed s clk e p) (treat_edge h seed s clk (edge_renumbered f e) q)) same (treat_edge-mapped seed s clk e may p all)

  -- ---- events

  abbrev Configurations : Configuration → Configuration → Type 0
  Configurations c d = (configuration_mapped (λ s. s) (λ ns. ns) r c ≡ d) × AllByRecursion LiveEntry c.pending

  abbrev mapped : EventVertex → EventVertex
  mapped v = record v { edges = map (edge_renumbered f) v.edges }

  mapped-alongside : (seed : ℕ) (v : EventVertex) → AllByRecursion (λ (e : EventEdge). LeadsToMapped Live SetApart e.kind e.target) v.edges → (n : EntryAndRest) → AllByRecursion LiveEntry n.others → (s : State) (taken : List ℕ) → Alongside Configurations (occur g seed v n s taken) (occur h seed (mapped v) (taken_off_mapped r n) s taken)
  mapped-alongside seed v closed n live s taken =
      bind-alongside-same Configurations (receive g v.parameters n.entry.values s) _ _ (λ t a.
      bind-alongside-same Configurations (in_turn (make_change g seed n.entry.time) v.changes (record { state = t; taken = taken })) _ _ (λ d b.
      bind-alongside Plans Configurations (in_turn-alongside (λ (e : EventEdge). LeadsToMapped Live SetApart e.kind e.target) (edge_renumbered f) Plans (treat_edge g seed d.state n.entry.time) (treat_edge h seed d.state n.entry.time) (λ e may p q plans. treat_edge-alongside seed d.state n.entry.time e may p q plans) v.edges closed (record { pending = n.others; taken = d.taken }) (record { pending = map r n.others; taken = d.taken }) (refl, live)) _ _ (λ p q (same, all).
      both_go (ap (λ (q : EdgeState). record { clock = n.entry.time; state = d.state; taken = q.taken; pending = q.pending }) same, all))))

  -- an event reads no name
  occur-as : (seed : ℕ) (v w : EventVertex) → BehavesAs f v w → (n : EntryAndRest) (s : State) (taken : List ℕ) → occur h seed (mapped v) n s taken ≡ occur h seed w n s taken
  occur-as seed v w as_ n s taken = λ i. occur h seed (record { name = v.name; parameters = as_.parameters i; changes = as_.changes i; edges = as_.edges i }) n s taken

  -- ---- what is watched

  prefix-same : (v : ℕ) → Live v → (watch : List Watched) → AllByRecursion (WatchedAreApart SetApart) watch → prefix_len (λ w. not (watches (f v) w)) (map (watched_renumbered f) watch) ≡ prefix_len (λ w. not (watches v w)) watch
  prefix-same v live [] all = refl
  prefix-same v live (WatchedVariable w ∷ watch) (here, all) = ap (λ n. 1 + n) (prefix-same v live watch all)
  prefix-same v live (WatchedVertex w ∷ watch) (here, all) = ap₂ (λ (b : Bool) (n : ℕ). cond (not b) (1 + n) 0) (turned (f w) (f v) ∙ (ok.apart w here v live ∙ turned v w)) (prefix-same v live watch all)

  position-same : (v : ℕ) → Live v → (watch : List Watched) → AllByRecursion (WatchedAreApart SetApart) watch → position (watches (f v)) (map (watched_renumbered f) watch) ≡ position (watches v) watch
  position-same v live watch all =
      ap₂ (λ (n len : ℕ). cond (nat_lt n len) (Some n) None) (prefix-same v live watch all) (length-map watch (watched_renumbered f))

  things-same : (watch : List Watched) → AllByRecursion (WatchedAreApart SetApart) watch → map (watched_name_of g) watch ≡ map (watched_name_of h) (map (watched_renumbered f) watch)
  things-same [] all = refl
  things-same (WatchedVariable v ∷ watch) (here, all) = ap (λ ts. watched_name_of g (WatchedVariable v) ∷ ts) (things-same watch all)
  things-same (WatchedVertex v ∷ watch) (here, all) = ap₂ (λ t ts. t ∷ ts) (ap VertexNamed (ok.names v here)) (things-same watch all)

  -- ---- runs

  abbrev Sound : Configuration → Type 0
  Sound c = AllByRecursion LiveEntry c.pending

  follows : (seed : ℕ) → Follows g h (λ s. s) (λ ns. ns) f (λ e. e.values) Sound seed
  follows seed = record {
    watched = λ s. sym (watched_values-mapped f g.watch s);
    places = λ c n sound next. sym (position-same n.entry.vertex (next_among-every LiveEntry (λ e. true) c.pending sound n next).0 g.watch ok.watched);
    steps = λ c n sound next due.
        let k = n.entry.vertex in
        let (live, all) = next_among-every LiveEntry (λ e. true) c.pending sound n next in
        subst (Alongside Configurations (occur g seed (vertex_at g k) n c.state c.taken)) (occur-as seed (vertex_at g k) (slice_index_or vertices (f k) no_vertex) (ok.does k live) (taken_off_mapped r n) c.state c.taken)
        (mapped-alongside seed (vertex_at g k) (ok.closed k live) n all c.state c.taken);
  }

  looks-same : (seed until : ℕ) → until ≤ 2 ^ 48 → (starts : List ℤ) → SameLooks (λ n. look g seed starts until n) (λ n. look h seed starts until n)
  looks-same seed until early starts =
      follows-looks g h (λ s. s) (λ ns. ns) f (λ e. e.values) Sound seed (follows seed) until early starts
      (ap (λ k. let c : Configuration = record { clock = 0; state = initial_state g; taken = replicate 64 0; pending = record { time = 0; priority = 5; vertex = k; values = starts } ∷ [] } in let m : Moment = record { now = c; noted = None } in m) ok.first) (ok.first_live, tt)

  -- so the graphs are the same
  pub mapped-Same : Same g h
  mapped-Same = record {
    watched = things-same g.watch ok.watched;
    started = ap (λ (ps : List ℕ). map (λ p. parameter (variable_at g p)) ps) ((ok.does 0 ok.first_live).parameters ∙ ap (λ k. (slice_index_or vertices k no_vertex).parameters) ok.first);
    runs = λ seed fits starts allowed until early. looks-same seed until early starts;
  }
