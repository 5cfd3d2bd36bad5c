-- Two models whose variables and vertices count as one where they have one class, and what has to hold of their events.
use Rattle.std.specs.Prelude.{◌≡◌, ℕ, ◌^◌, ◌<◌, IsTrue, ◌≤◌, ℤ, List, [], map, replicate, position, Some, Ok, Err}
use Rattle.std.specs.List.{AllByRecursion}
use Rattle.model_core.specs.EventGraph.{EventGraph, watched_variables}
use Rattle.model_core.specs.Run.State.{State, cells_of, initial_state}
use Rattle.model_core.specs.Run.Value.{OrFault}
use Rattle.model_core.specs.Run.Pending.{Entry, EntryAndRest, next_entry}
use Rattle.model_core.specs.Run.Step.{Configuration, vertex_at, occur}
use Rattle.model_core.specs.Run.History.{allowed, watches}
use Rattle.pair_laws.specs.Effects.{Effect, Appends, CancelsNext, CancelsEqual, CancelsAll, SameEffects, Done, done_by}

-- the number of the class of each variable and of each vertex, and which of the values carried to a vertex count
pub record Classes : Type 0 where
  pub variables : ℕ → ℕ
  pub vertices : ℕ → ℕ
  pub counting : ℕ → List ℤ → List ℤ

-- what both models see of an entry: when it is due, the class of its vertex and the values that count
abbrev pub entry_seen : Classes → Entry → Entry
entry_seen k e = record { time = e.time; priority = e.priority; vertex = k.vertices e.vertex; values = k.counting e.vertex e.values }

abbrev pub effect_seen : Classes → Effect → Effect
effect_seen k (Appends e) = Appends (entry_seen k e)
effect_seen k (CancelsNext vertex) = CancelsNext (k.vertices vertex)
effect_seen k (CancelsEqual vertex values) = CancelsEqual (k.vertices vertex) (k.counting vertex values)
effect_seen k (CancelsAll vertex) = CancelsAll (k.vertices vertex)

-- no other vertex of the model has its class
abbrev pub IsAlone : Classes → ℕ → Type 0
IsAlone k vertex = (other : ℕ) → k.vertices other ≡ k.vertices vertex → other ≡ vertex

-- all values carried to it count
abbrev pub AllCount : Classes → ℕ → Type 0
AllCount k vertex = (values : List ℤ) → k.counting vertex values ≡ values

-- an effect takes away by class what it takes away by vertex
abbrev pub TakesAwayAlone : Classes → Effect → Type 0
TakesAwayAlone k (Appends e) = Unit {0}
TakesAwayAlone k (CancelsNext vertex) = IsAlone k vertex
TakesAwayAlone k (CancelsEqual vertex values) = IsAlone k vertex × AllCount k vertex
TakesAwayAlone k (CancelsAll vertex) = IsAlone k vertex

-- variables of one class have the same values
abbrev pub StatesAgree : Classes → Classes → State → State → Type 0
StatesAgree k l s t = (x y : ℕ) → k.variables x ≡ l.variables y → cells_of s x ≡ cells_of t y

-- both results are related, or both faults have one kind
abbrev pub SameOutcome : {A B : Type 0} → (A → B → Type 0) → OrFault A → OrFault B → Type 0
SameOutcome R (Ok a) (Ok b) = R a b
SameOutcome R (Ok a) (Err kind) = ⊥
SameOutcome R (Err kind) (Ok b) = ⊥
SameOutcome R (Err kind) (Err other) = kind ≡ other

-- Two events did the same: the states agree, as many words were taken, and the effects, but for the order of scheduling, are
-- lists of effects that are seen as the same and take away by class what they take away by vertex.
pub record DoneAgree (k l : Classes) (d e : Done) : Type 0 where
  pub states : StatesAgree k l d.state e.state
  pub taken : d.taken ≡ e.taken
  pub first : List Effect
  pub second : List Effect
  pub by_first : SameEffects d.effects first
  pub by_second : SameEffects e.effects second
  pub seen : SameEffects (map (effect_seen k) first) (map (effect_seen l) second)
  pub first_alone : AllByRecursion (TakesAwayAlone k) first
  pub second_alone : AllByRecursion (TakesAwayAlone l) second

-- a run's first event, with nothing else pending
abbrev pub first_entry : List ℤ → EntryAndRest
first_entry starts = record { entry = record { time = 0; priority = 5; vertex = 0; values = starts }; others = [] }

-- the configurations that a run meets after its first event, up to the clock 2^48
pub data Met (g : EventGraph) (seed : ℕ) (starts : List ℤ) : Configuration → Type 0 where
  after_first : (c : Configuration) → occur g seed (vertex_at g 0) (first_entry starts) (initial_state g) (replicate 64 0) ≡ Ok c → Met g seed starts c
  after_more : (c d : Configuration) (n : EntryAndRest) → Met g seed starts c → next_entry c.pending ≡ Some n → n.entry.time ≤ 2 ^ 48 → occur g seed (vertex_at g n.entry.vertex) n c.state c.taken ≡ Ok d → Met g seed starts d

-- what has to hold of two models with these classes, in their runs with this seed and these starting values
pub record Pairing (g h : EventGraph) (k l : Classes) (seed : ℕ) (starts : List ℤ) : Type 0 where
  -- the watch lists name variables that count as one, and vertices that count as one have one place there
  pub watched : map k.variables (watched_variables g.watch) ≡ map l.variables (watched_variables h.watch)
  pub places : (v w : ℕ) → k.vertices v ≡ l.vertices w → position (watches v) g.watch ≡ position (watches w) h.watch
  pub first_places : position (watches 0) g.watch ≡ position (watches 0) h.watch
  -- the first events do the same
  pub first_events : SameOutcome (DoneAgree k l) (done_by g seed (vertex_at g 0) 0 starts (initial_state g) (replicate 64 0)) (done_by h seed (vertex_at h 0) 0 starts (initial_state h) (replicate 64 0))
  -- so do each two events that are seen as the same, after states that agree
  pub events : (c d : Configuration) (n m : EntryAndRest) → Met g seed starts c → Met h seed starts d → StatesAgree k l c.state d.state → c.taken ≡ d.taken
      → next_entry c.pending ≡ Some n → next_entry d.pending ≡ Some m → entry_seen k n.entry ≡ entry_seen l m.entry → n.entry.time ≤ 2 ^ 48
      → SameOutcome (DoneAgree k l) (done_by g seed (vertex_at g n.entry.vertex) n.entry.time n.entry.values c.state c.taken) (done_by h seed (vertex_at h m.entry.vertex) m.entry.time m.entry.values d.state d.taken)

-- in each run some classes pair the two models
abbrev pub PairedAlways : EventGraph → EventGraph → Type 0
PairedAlways g h = (seed : ℕ) → seed < 2 ^ 64 → (starts : List ℤ) → IsTrue (allowed g starts) → (k : Classes) × (l : Classes) × Pairing g h k l seed starts
