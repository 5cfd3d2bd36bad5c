-- Runs of a model, and of what is left of it where variables go, in lock step.
use Rattle.std.proofs.Common.{◌≡◌, ℕ, ◌+◌, ◌^◌, ◌≤◌, ℤ, Bool, true, false, not, cond, nat_lt, List, [], ◌∷◌, map, Some, None, refl, sym, ◌∙◌, ap, ap₂, subst}
use Rattle.std.proofs.lemmas.List.{length-map}
use Rattle.std.specs.Prelude.{position, replicate}
use Rattle.std.specs.List.{AllByRecursion, prefix_len}
use Rattle.model_core.specs.EventGraph.{EventGraph, EventVertex, Variable, Watched, WatchedVariable, WatchedVertex}
use Rattle.model_core.specs.Run.State.{State, variable_at, cell_count, initial_state}
use Rattle.model_core.specs.Run.Changes.{ChangeState}
use Rattle.model_core.specs.Run.Pending.{EntryAndRest}
use Rattle.model_core.specs.Run.Edges.{EdgeState}
use Rattle.model_core.specs.Run.Step.{Configuration, no_vertex, vertex_at, occur}
use Rattle.model_core.specs.Run.History.{Moment, watched_values, watches, start, look}
use Rattle.model_core.specs.Run.Same.{SameLooks, Same, watched_name_of, parameter, VariableNamed, VertexNamed}
use Rattle.model_core.specs.Rules.MarkedPlaces.{rank, marked_of}
use Rattle.model_core.specs.Rules.Slice.{sliced_parameters, sliced_watched, sliced_vertex, of_marked_variables}
use Rattle.run_laws.proofs.Keeping.{Kept, received}
use Rattle.model_core.proofs.Alongside.{Alongside, both_go, alongside-known, bind-alongside}
use Rattle.model_core.proofs.Images.{at-map}
use Rattle.run_laws.proofs.MappedPending.{taken_off_mapped, next_among-every}
use Rattle.run_laws.proofs.LockStep.{configuration_mapped, Follows, follows-looks}
use Rattle.mark_laws.proofs.Marks.{Marked, marked-placed}
use Rattle.var_slicing.proofs.StoresLeft.{StateLeft, variable-left}
use Rattle.var_slicing.proofs.ValuesLeft.{all-items_where_marked, marked-stored, received-alongside}
use Rattle.var_slicing.proofs.MaskedWords.{words_left, words_left-none}
use Rattle.var_slicing.proofs.ChangesLeft.{DrawnLeft, ChangeFits, changes-alongside}
use Rattle.var_slicing.proofs.EdgesLeft.{carried_left, entry_left, EntryFits, EdgeFits, PlannedLeft, edges-alongside}

-- a watched variable is marked
abbrev pub WatchedMarked : List Bool → Watched → Type 0
WatchedMarked marks (WatchedVariable v) = Marked marks v
WatchedMarked marks (WatchedVertex v) = Unit {0}

-- in states of which Q holds, what stays of a vertex reads marked variables alone, and what goes doesn't fault
pub record VertexFits (g : EventGraph) (marks live : List Bool) (Q : State → Type 0) (v : EventVertex) : Type 0 where
  pub changes : (seed clk : ℕ) → clk ≤ 2 ^ 48 → AllByRecursion (λ c. (d : ChangeState) → Q d.state → ChangeFits g marks live seed clk d c) v.changes
  pub edges : (s : State) → Q s → (clk : ℕ) → clk ≤ 2 ^ 48 → AllByRecursion (EdgeFits g marks live s clk) v.edges

pub record MayGo (g : EventGraph) (marks live : List Bool) (Q : State → Type 0) : Type 0 where
  pub vertices : (k : ℕ) → VertexFits g marks live Q (vertex_at g k)
  pub watched : AllByRecursion (WatchedMarked marks) g.watch
  pub kept : Kept g Q
  pub first : AllByRecursion (Marked marks) (vertex_at g 0).parameters

values-watched : (marks : List Bool) (watch : List Watched) → AllByRecursion (WatchedMarked marks) watch → (s : State) → watched_values watch s ≡ watched_values (map (sliced_watched marks) watch) (marked_of marks s)
values-watched marks [] all s = refl
values-watched marks (WatchedVariable v ∷ watch) (now, all) s = ap₂ (λ (cells : List ℤ) (vs : List (List ℤ)). cells ∷ vs) (sym (marked-placed marks s v [] now)) (values-watched marks watch all s)
values-watched marks (WatchedVertex v ∷ watch) (now, all) s = values-watched marks watch all s

prefix-left : (marks : List Bool) (vertex : ℕ) (watch : List Watched) → prefix_len (λ w. not (watches vertex w)) watch ≡ prefix_len (λ w. not (watches vertex w)) (map (sliced_watched marks) watch)
prefix-left marks vertex [] = refl
prefix-left marks vertex (WatchedVariable v ∷ watch) = ap (λ n. 1 + n) (prefix-left marks vertex watch)
prefix-left marks vertex (WatchedVertex v ∷ watch) = ap (λ n. cond (not (watches vertex (WatchedVertex v))) (1 + n) 0) (prefix-left marks vertex watch)

position-left : (marks : List Bool) (vertex : ℕ) (watch : List Watched) → position (watches vertex) watch ≡ position (watches vertex) (map (sliced_watched marks) watch)
position-left marks vertex watch =
    ap₂ (λ (n len : ℕ). cond (nat_lt n len) (Some n) None) (prefix-left marks vertex watch) (sym (length-map watch (sliced_watched marks)))

initial-left : (bs : List Bool) (vs : List Variable) → marked_of bs (map (λ (v : Variable). replicate (cell_count v) v.initial) vs) ≡ map (λ (v : Variable). replicate (cell_count v) v.initial) (marked_of bs vs)
initial-left [] vs = refl
initial-left (b ∷ bs) [] = refl
initial-left (true ∷ bs) (v ∷ vs) = ap (λ s. replicate (cell_count v) v.initial ∷ s) (initial-left bs vs)
initial-left (false ∷ bs) (v ∷ vs) = initial-left bs vs

module _ (g : EventGraph) (marks live : List Bool) (Q : State → Type 0) (ok : MayGo g marks live Q) where
  abbrev h : EventGraph
  h = of_marked_variables g marks

  vertex-placed : (k : ℕ) → vertex_at h k ≡ sliced_vertex g marks (vertex_at g k)
  vertex-placed k = at-map (sliced_vertex g marks) g.vertices k no_vertex

  abbrev configuration_left : Configuration → Configuration
  configuration_left = configuration_mapped (marked_of marks) (words_left live) (entry_left g marks)

  abbrev Sound : Configuration → Type 0
  Sound c = Q c.state × AllByRecursion (EntryFits g marks) c.pending

  abbrev Configurations : Configuration → Configuration → Type 0
  Configurations c d = (configuration_left c ≡ d) × Sound c

  occur-left : (seed : ℕ) (n : EntryAndRest) → n.entry.time ≤ 2 ^ 48 → EntryFits g marks n.entry → AllByRecursion (EntryFits g marks) n.others → (s : State) (taken : List ℕ) → Q s → Alongside Configurations (occur g seed (vertex_at g n.entry.vertex) n s taken) (occur h seed (sliced_vertex g marks (vertex_at g n.entry.vertex)) (taken_off_mapped (entry_left g marks) n) (marked_of marks s) (words_left live taken))
  occur-left seed n due fit fits s taken q =
      let v = vertex_at g n.entry.vertex in
      let clk = n.entry.time in
      let LeftQ : State → State → Type 0 = λ t u. StateLeft marks t u × Q t in
      let DrawnQ : ChangeState → ChangeState → Type 0 = λ d e. DrawnLeft marks live d e × Q d.state in
      bind-alongside LeftQ Configurations (alongside-known (StateLeft marks) Q (received-alongside g marks s (marked_of marks s) refl clk v.parameters n.entry.values fit) (λ t done. received g Q ok.kept v.parameters n.entry.values s t q done)) _ _ (λ t u (left, qt).
      bind-alongside DrawnQ Configurations (changes-alongside g marks live seed clk (λ d. Q d.state) (λ c d e. ok.kept.by_change seed clk c d e) v.changes ((ok.vertices n.entry.vertex).changes seed clk due) (record { state = t; taken = taken }) (record { state = u; taken = words_left live taken }) (left, refl) qt) _ _ (λ d e ((is, words), qd).
      bind-alongside (PlannedLeft g marks live) Configurations (edges-alongside g marks live seed d.state e.state is clk v.edges ((ok.vertices n.entry.vertex).edges d.state qd clk due) (record { pending = n.others; taken = d.taken }) (record { pending = map (entry_left g marks) n.others; taken = e.taken }) (ap (λ (ns : List ℕ). record { pending = map (entry_left g marks) n.others; taken = ns }) words, fits)) _ _ (λ p p2 (same, all).
      both_go (ap₂ (λ (s : State) (p : EdgeState). record { clock = clk; state = s; taken = p.taken; pending = p.pending }) is same, (qd, all)))))

  follows : (seed : ℕ) → Follows g h (marked_of marks) (words_left live) (λ v. v) (carried_left g marks) Sound seed
  follows seed = record {
    watched = values-watched marks g.watch ok.watched;
    places = λ c n sound next. position-left marks n.entry.vertex g.watch;
    steps = λ c n sound next due.
        let (fit, fits) = next_among-every (EntryFits g marks) (λ e. true) c.pending sound.1 n next in
        subst (λ (w : EventVertex). Alongside Configurations (occur g seed (vertex_at g n.entry.vertex) n c.state c.taken) (occur h seed w (taken_off_mapped (entry_left g marks) n) (marked_of marks c.state) (words_left live c.taken))) (sym (vertex-placed n.entry.vertex)) (occur-left seed n due fit fits c.state c.taken sound.0);
  }

  start-left : (starts : List ℤ) → record { now = configuration_left (start g starts).now; noted = None } ≡ start h starts
  start-left starts =
      let at : State → List ℕ → List ℤ → Moment = λ s ns xs. record { now = record { clock = 0; state = s; taken = ns; pending = record { time = 0; priority = 5; vertex = 0; values = xs } ∷ [] }; noted = None } in
      let words : words_left live (replicate 64 0) ≡ replicate 64 0 = words_left-none live 64 in
      ap₂ (λ (s : State) (ns : List ℕ). at s ns (carried_left g marks (record { time = 0; priority = 5; vertex = 0; values = starts }))) (initial-left marks g.variables) words ∙
      ap (at (initial_state h) (replicate 64 0)) (all-items_where_marked marks (vertex_at g 0).parameters starts ok.first)

  looks-left : (seed until : ℕ) → until ≤ 2 ^ 48 → (starts : List ℤ) → Q (initial_state g) → SameLooks (λ n. look g seed starts until n) (λ n. look h seed starts until n)
  looks-left seed until early starts q =
      follows-looks g h (marked_of marks) (words_left live) (λ v. v) (carried_left g marks) Sound seed (follows seed) until early starts (start-left starts) (q, (marked-stored g marks (vertex_at g 0).parameters starts ok.first, tt))

  things-left : (watch : List Watched) → AllByRecursion (WatchedMarked marks) watch → map (watched_name_of g) watch ≡ map (watched_name_of h) (map (sliced_watched marks) watch)
  things-left [] all = refl
  things-left (WatchedVariable v ∷ watch) (now, all) = ap₂ (λ t ts. t ∷ ts) (ap (λ (v : Variable). VariableNamed v.name) (sym (variable-left g marks v now))) (things-left watch all)
  things-left (WatchedVertex v ∷ watch) (now, all) = ap₂ (λ t ts. t ∷ ts) (ap (λ (v : EventVertex). VertexNamed v.name) (sym (vertex-placed v))) (things-left watch all)

  parameters-started : (vs : List ℕ) → AllByRecursion (Marked marks) vs → map (λ v. parameter (variable_at g v)) vs ≡ map (λ v. parameter (variable_at h v)) (sliced_parameters marks vs)
  parameters-started [] all = refl
  parameters-started (v ∷ vs) (now, all) =
      ap₂ (λ p ps. p ∷ ps) (ap parameter (sym (variable-left g marks v now))) (parameters-started vs all) ∙
      sym (ap (λ b. map (λ v. parameter (variable_at h v)) (cond b (rank marks v ∷ sliced_parameters marks vs) (sliced_parameters marks vs))) now)

  -- the variables that aren't marked may go
  pub marked-same : Q (initial_state g) → Same g h
  marked-same q = record {
    watched = things-left g.watch ok.watched;
    started = parameters-started (vertex_at g 0).parameters ok.first ∙ ap (λ (v : EventVertex). map (λ p. parameter (variable_at h p)) v.parameters) (sym (vertex-placed 0));
    runs = λ seed fits starts allowed until early. looks-left seed until early starts q;
  }
