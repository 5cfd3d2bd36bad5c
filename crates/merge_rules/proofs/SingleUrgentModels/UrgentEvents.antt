-- Single urgent models: between two steps at most one event is urgent, and it is due at the clock.
use Rattle.std.proofs.Common.{◌≡◌, ◌⊎◌, inl, inr, ℕ, ◌<◌, ◌≤◌, ℤ, ◌==◌, nat_lt, Bool, true, false, not, cond, ◌&&◌, ◌||◌, List, [], ◌∷◌, ◌++◌, Option, Some, None, option_map, Ok, refl, sym, ◌∙◌, ap, ap₂, subst, arith, unwrap_or}
use Rattle.std.proofs.lemmas.Bool.Decides.{nat_tests}
use Rattle.std.specs.List.{AllByRecursion}
use Rattle.model_core.specs.EventGraph.{EventGraph, EventVertex, EventEdge, EdgeKind, Schedule, Urgent, CancelNext, CancelEqual, CancelAll}
use Rattle.model_core.specs.Run.State.{State}
use Rattle.model_core.specs.Run.Value.{OrFault, ◌>>=◌, in_turn, value_of, is_one}
use Rattle.model_core.specs.Run.Changes.{ChangeState, make_change}
use Rattle.model_core.specs.Run.Pending.{Entry, EntryAndRest, sooner, staying, next_or_first, next_among, next_entry, without_next, without_all}
use Rattle.model_core.specs.Run.Edges.{EdgeState, carried_values, act, treat_edge}
use Rattle.model_core.specs.Run.Step.{Configuration, receive, occur}
use Rattle.model_core.specs.Run.History.{start}
use Rattle.model_core.proofs.Results.{bind_ok}
use Rattle.model_core.proofs.EachOne.{every-append, every-both}
use Rattle.run_laws.proofs.MappedPending.{next_among-every}
use Rattle.run_laws.proofs.MadeEntries.{SchedulesOnly, IsTaken, StaysTrue, every-stays, pending-is, treat_edge-stays, edges-stay}
use Rattle.run_laws.proofs.OnTime.{NoneEarlier}
use Rattle.merge_rules.proofs.SingleUrgentModels.InsertedEntry.{Inserted, front, further, every-inserted, DueBefore, next_entry-inserted}

-- ---- at most one urgent event

abbrev pub NotUrgent : Entry → Type 0
NotUrgent e = 0 < e.priority

abbrev pub UrgentNow : ℕ → Entry → Type 0
UrgentNow t e = (e.time ≡ t) × (e.priority ≡ 0)

-- at most one of these events is urgent, and that one is due at this time
abbrev pub OneUrgent : ℕ → List Entry → Type 0
OneUrgent t [] = Unit {0}
OneUrgent t (e ∷ es) = (NotUrgent e × OneUrgent t es) ⊎ (UrgentNow t e × AllByRecursion NotUrgent es)

-- none is, or one was put in somewhere
urgent-cases : (t : ℕ) (es : List Entry) → OneUrgent t es → AllByRecursion NotUrgent es ⊎ ((b : Entry) × (xs : List Entry) × Inserted b xs es × UrgentNow t b × AllByRecursion NotUrgent xs)
urgent-cases t [] urgent = inl tt
urgent-cases t (e ∷ es) (inr (now, all)) = inr (e, es, front es, now, all)
urgent-cases t (e ∷ es) (inl (here, urgent)) = more (urgent-cases t es urgent) where
  more : AllByRecursion NotUrgent es ⊎ ((b : Entry) × (xs : List Entry) × Inserted b xs es × UrgentNow t b × AllByRecursion NotUrgent xs) → (NotUrgent e × AllByRecursion NotUrgent es) ⊎ ((b : Entry) × (xs : List Entry) × Inserted b xs (e ∷ es) × UrgentNow t b × AllByRecursion NotUrgent xs)
  more (inl all) = inl (here, all)
  more (inr (b, xs, i, now, all)) = inr (b, e ∷ xs, further e i, now, (here, all))

waits-due : (clk t p : ℕ) → clk ≤ t → 0 < p → (nat_lt clk t || ((clk == t) && nat_lt 0 p)) ≡ true
waits-due clk t p late some = grind (arith, nat_tests)

-- it is due before the others, none of which is earlier
pub due-first : (b : Entry) (t : ℕ) → UrgentNow t b → (x : Entry) → t ≤ x.time → NotUrgent x → DueBefore b x
due-first b t (time, priority) x late some =
    ap₂ (λ (u p : ℕ). nat_lt u x.time || ((u == x.time) && nat_lt p x.priority)) time priority ∙ waits-due t x.time x.priority late some

-- so when the next one is taken off, none of the others is urgent
pub others-not_urgent : (t : ℕ) (es : List Entry) (n : EntryAndRest) → NoneEarlier t es → OneUrgent t es → next_entry es ≡ Some n → AllByRecursion NotUrgent n.others
others-not_urgent t es n late urgent next = cases (urgent-cases t es urgent) where
  cases : AllByRecursion NotUrgent es ⊎ ((b : Entry) × (xs : List Entry) × Inserted b xs es × UrgentNow t b × AllByRecursion NotUrgent xs) → AllByRecursion NotUrgent n.others
  cases (inl all) = (next_among-every NotUrgent (λ e. true) es all n next).1
  cases (inr (b, xs, i, now, all)) =
      let is_next : next_entry es ≡ Some (record { entry = b; others = xs }) = next_entry-inserted b i (every-both (λ x. t ≤ x.time) NotUrgent (DueBefore b) (λ x from some. due-first b t now x from some) xs (every-inserted (λ x. t ≤ x.time) b i late) all) in
      let same : record { entry = b; others = xs } ≡ n = cc in
      subst (λ (n : EntryAndRest). AllByRecursion NotUrgent n.others) same all

-- ---- cancelling keeps it

-- the first list is the second one without some
data Part : List Entry → List Entry → Type 0 where
  none_left : Part [] []
  stays : (x : Entry) {xs ys : List Entry} → Part xs ys → Part (x ∷ xs) (x ∷ ys)
  goes : (x : Entry) {xs ys : List Entry} → Part xs ys → Part xs (x ∷ ys)

whole : (xs : List Entry) → Part xs xs
whole [] = none_left
whole (x ∷ xs) = stays x (whole xs)

part-every : (P : Entry → Type 0) {xs ys : List Entry} → Part xs ys → AllByRecursion P ys → AllByRecursion P xs
part-every P none_left all = tt
part-every P (stays x part) (p, all) = (p, part-every P part all)
part-every P (goes x part) (p, all) = part-every P part all

none-one_urgent : (t : ℕ) (xs : List Entry) → AllByRecursion NotUrgent xs → OneUrgent t xs
none-one_urgent t [] all = tt
none-one_urgent t (x ∷ xs) (some, all) = inl (some, none-one_urgent t xs all)

part-one_urgent : (t : ℕ) {xs ys : List Entry} → Part xs ys → OneUrgent t ys → OneUrgent t xs
part-one_urgent t none_left urgent = tt
part-one_urgent t (stays x part) (inl (some, urgent)) = inl (some, part-one_urgent t part urgent)
part-one_urgent t (stays x part) (inr (now, all)) = inr (now, part-every NotUrgent part all)
part-one_urgent t (goes x part) (inl (some, urgent)) = part-one_urgent t part urgent
part-one_urgent t (goes x {xs = xs} {ys = ys} part) (inr (now, all)) = none-one_urgent t xs (part-every NotUrgent part all)

offs-part : (test : Entry → Bool) (es : List Entry) (n : EntryAndRest) → next_among test es ≡ Some n → Part n.others es
offs-part test [] n done = cc
offs-part test (e ∷ es) n done = one (test e) (next_among test es) done (offs-part test es) where
  picks : (k : EntryAndRest) (b : Bool) → Part k.others es → Some (cond b (staying e k) (record { entry = e; others = es })) ≡ Some n → Part n.others (e ∷ es)
  picks k true part done = let same : staying e k ≡ n = cc in subst (λ (n : EntryAndRest). Part n.others (e ∷ es)) same (stays e part)
  picks k false part done = let same : record { entry = e; others = es } ≡ n = cc in subst (λ (n : EntryAndRest). Part n.others (e ∷ es)) same (goes e (whole es))

  one : (b : Bool) (o : Option EntryAndRest) → cond b (next_or_first e es o) (option_map (staying e) o) ≡ Some n → ((k : EntryAndRest) → o ≡ Some k → Part k.others es) → Part n.others (e ∷ es)
  one true None done later = let same : record { entry = e; others = es } ≡ n = cc in subst (λ (n : EntryAndRest). Part n.others (e ∷ es)) same (goes e (whole es))
  one true (Some k) done later = picks k (sooner k.entry e) (later k refl) done
  one false None done later = cc
  one false (Some k) done later = let same : staying e k ≡ n = cc in subst (λ (n : EntryAndRest). Part n.others (e ∷ es)) same (stays e (later k refl))

without_next-part : (test : Entry → Bool) (es : List Entry) → Part (without_next test es) es
without_next-part test es = left (next_among test es) refl where
  left : (o : Option EntryAndRest) → next_among test es ≡ o → Part (unwrap_or (option_map (λ n. n.others) o) es) es
  left None is = whole es
  left (Some n) is = offs-part test es n is

kept-part : (x : Entry) {xs ys : List Entry} → Part xs ys → (c : Bool) → Part (cond c (x ∷ xs) xs) (x ∷ ys)
kept-part x part true = stays x part
kept-part x part false = goes x part

without_all-part : (test : Entry → Bool) (es : List Entry) → Part (without_all test es) es
without_all-part test [] = none_left
without_all-part test (e ∷ es) = kept-part e (without_all-part test es) (not (test e))

-- ---- the edges

one_urgent-append : (t : ℕ) (es : List Entry) (x : Entry) → OneUrgent t es → NotUrgent x → OneUrgent t (es ++ x ∷ [])
one_urgent-append t [] x urgent some = inl (some, tt)
one_urgent-append t (e ∷ es) x (inl (here, urgent)) some = inl (here, one_urgent-append t es x urgent some)
one_urgent-append t (e ∷ es) x (inr (now, all)) some = inr (now, every-append NotUrgent es x all some)

urgent-append : (t : ℕ) (es : List Entry) (x : Entry) → AllByRecursion NotUrgent es → UrgentNow t x → OneUrgent t (es ++ x ∷ [])
urgent-append t [] x all now = inr (now, tt)
urgent-append t (e ∷ es) x (some, all) now = inl (some, urgent-append t es x all now)

-- an urgent edge whose condition is true
abbrev pub Fires : EventGraph → State → ℕ → EventEdge → Type 0
Fires g s clk e = (e.kind ≡ Urgent) × IsTaken g s clk e

-- of any two edges at most one fires
abbrev pub Exclusive : EventGraph → State → ℕ → List EventEdge → Type 0
Exclusive g s clk [] = Unit {0}
Exclusive g s clk (e ∷ es) = (Fires g s clk e → AllByRecursion (λ f. Fires g s clk f → ⊥) es) × Exclusive g s clk es

abbrev pub PriorityOk : EdgeKind → Type 0
PriorityOk (Schedule delay priority) = 0 < priority
PriorityOk Urgent = Unit {0}
PriorityOk CancelNext = Unit {0}
PriorityOk CancelEqual = Unit {0}
PriorityOk CancelAll = Unit {0}

one_urgent-stays : (t : ℕ) → StaysTrue (OneUrgent t) NotUrgent
one_urgent-stays t = record {
  by_next = λ test xs urgent. part-one_urgent t (without_next-part test xs) urgent;
  by_all = λ test xs urgent. part-one_urgent t (without_all-part test xs) urgent;
  by_one_more = one_urgent-append t;
}

module _ (g : EventGraph) (seed : ℕ) (s : State) (clk : ℕ) where
  -- an edge that isn't urgent schedules no urgent event
  kind-not_urgent : (e : EventEdge) (kind : EdgeKind) → PriorityOk kind → (kind ≡ Urgent → ⊥) → SchedulesOnly NotUrgent g seed s clk e kind
  kind-not_urgent e (Schedule delay priority) some calm = λ taken wait values at_delay at_values. some
  kind-not_urgent e Urgent some calm = absurd (calm refl)
  kind-not_urgent e CancelNext some calm = tt
  kind-not_urgent e CancelEqual some calm = tt
  kind-not_urgent e CancelAll some calm = tt

  -- nor does one that doesn't fire
  edge-not_urgent : (e : EventEdge) → PriorityOk e.kind → (Fires g s clk e → ⊥) → IsTaken g s clk e → SchedulesOnly NotUrgent g seed s clk e e.kind
  edge-not_urgent e some quiet taken = kind-not_urgent e e.kind some (λ urgent. quiet (urgent, taken))

  urgent_kind : (kind : EdgeKind) → (kind ≡ Urgent) ⊎ (kind ≡ Urgent → ⊥)
  urgent_kind (Schedule delay priority) = inr (λ e. let no : ⊥ = cc in no)
  urgent_kind Urgent = inl refl
  urgent_kind CancelNext = inr (λ e. let no : ⊥ = cc in no)
  urgent_kind CancelEqual = inr (λ e. let no : ⊥ = cc in no)
  urgent_kind CancelAll = inr (λ e. let no : ⊥ = cc in no)

  -- where none fires
  rest-one_urgent : (es : List EventEdge) → AllByRecursion (λ (e : EventEdge). PriorityOk e.kind) es → AllByRecursion (λ e. Fires g s clk e → ⊥) es → (p q : EdgeState) → OneUrgent clk p.pending → in_turn (treat_edge g seed s clk) es p ≡ Ok q → OneUrgent clk q.pending
  rest-one_urgent es some quiet p q urgent done =
      edges-stay (OneUrgent clk) NotUrgent (one_urgent-stays clk) g seed s clk es p q (every-both (λ (e : EventEdge). PriorityOk e.kind) (λ e. Fires g s clk e → ⊥) _ edge-not_urgent es some quiet) urgent done

  acts-urgent : (e : EventEdge) (kind : EdgeKind) → kind ≡ Urgent → (p q : EdgeState) → AllByRecursion NotUrgent p.pending → act g seed s clk e kind p ≡ Ok q → OneUrgent clk q.pending
  acts-urgent e (Schedule delay priority) is p q all done = cc
  acts-urgent e Urgent is p q all done =
      let (values, c, end) = bind_ok (carried_values g s clk e) _ q done in
      pending-is (OneUrgent clk) _ q end (urgent-append clk p.pending _ all (refl, refl))
  acts-urgent e CancelNext is p q all done = cc
  acts-urgent e CancelEqual is p q all done = cc
  acts-urgent e CancelAll is p q all done = cc

  treat_edge-fires : (e : EventEdge) → Fires g s clk e → (p q : EdgeState) → AllByRecursion NotUrgent p.pending → treat_edge g seed s clk e p ≡ Ok q → OneUrgent clk q.pending
  treat_edge-fires e (urgent, (c, is, one)) p q all done =
      acts-urgent e e.kind urgent p q all (sym (ap (λ (r : OrFault ℤ). r >>= λ c. cond (is_one c) (act g seed s clk e e.kind p) (Ok p)) is ∙ ap (λ b. cond b (act g seed s clk e e.kind p) (Ok p)) one) ∙ done)

  -- the edges of a vertex, of which at most one fires
  edges-one_urgent : (es : List EventEdge) → AllByRecursion (λ (e : EventEdge). PriorityOk e.kind) es → Exclusive g s clk es → (p q : EdgeState) → AllByRecursion NotUrgent p.pending → in_turn (treat_edge g seed s clk) es p ≡ Ok q → OneUrgent clk q.pending
  edges-one_urgent [] some exclusive p q all done = pending-is (OneUrgent clk) p q done (none-one_urgent clk p.pending all)
  edges-one_urgent (e ∷ es) (now, some) (alone, exclusive) p q all done =
      let (p1, first, later) = bind_ok (treat_edge g seed s clk e p) (in_turn (treat_edge g seed s clk) es) q done in
      by_kind p1 first later (edges-one_urgent es some exclusive p1 q) where
        by_kind : (p1 : EdgeState) → treat_edge g seed s clk e p ≡ Ok p1 → in_turn (treat_edge g seed s clk) es p1 ≡ Ok q → (AllByRecursion NotUrgent p1.pending → in_turn (treat_edge g seed s clk) es p1 ≡ Ok q → OneUrgent clk q.pending) → OneUrgent clk q.pending
        by_kind p1 first later rest =
            let (c, is, then) = bind_ok (value_of g s clk e.condition) (λ c. cond (is_one c) (act g seed s clk e e.kind p) (Ok p)) p1 first in
            fires_or_not c is (is_one c) refl (urgent_kind e.kind) where
              goes_on : (Fires g s clk e → ⊥) → OneUrgent clk q.pending
              goes_on quiet = rest (treat_edge-stays (AllByRecursion NotUrgent) NotUrgent (every-stays NotUrgent) g seed s clk e p p1 (edge-not_urgent e now quiet) all first) later

              fires_or_not : (c : ℤ) → value_of g s clk e.condition ≡ Ok c → (b : Bool) → is_one c ≡ b → (e.kind ≡ Urgent) ⊎ (e.kind ≡ Urgent → ⊥) → OneUrgent clk q.pending
              fires_or_not c is true one (inl urgent) =
                  let fires : Fires g s clk e = (urgent, (c, is, one)) in
                  rest-one_urgent es some (alone fires) p1 q (treat_edge-fires e fires p p1 all first) later
              fires_or_not c is false zero kinds = goes_on (λ fires. let no : ⊥ = cc (is, fires.1.1, fires.1.2, zero) in no)
              fires_or_not c is b one (inr calm) = goes_on (λ fires. calm fires.0)

-- a run begins so
pub starts-one_urgent : (t : ℕ) (g : EventGraph) (starts : List ℤ) → OneUrgent t (start g starts).now.pending
starts-one_urgent t g starts = inl (omega arith, tt)

-- and the next event keeps it
pub occur-one_urgent : (g : EventGraph) (seed : ℕ) (v : EventVertex) → AllByRecursion (λ (e : EventEdge). PriorityOk e.kind) v.edges → (c d : Configuration) (n : EntryAndRest) → NoneEarlier c.clock c.pending → OneUrgent c.clock c.pending → next_entry c.pending ≡ Some n → ((t : State) (d : ChangeState) → receive g v.parameters n.entry.values c.state ≡ Ok t → in_turn (make_change g seed n.entry.time) v.changes (record { state = t; taken = c.taken }) ≡ Ok d → Exclusive g d.state n.entry.time v.edges) → occur g seed v n c.state c.taken ≡ Ok d → OneUrgent d.clock d.pending
occur-one_urgent g seed v some c d n late urgent next exclusive done =
    let (u, at_receive, after_receive) = bind_ok (receive g v.parameters n.entry.values c.state) _ d done in
    let (e, at_changes, after_changes) = bind_ok (in_turn (make_change g seed n.entry.time) v.changes (record { state = u; taken = c.taken })) _ d after_receive in
    let (p, at_edges, at_end) = bind_ok (in_turn (treat_edge g seed e.state n.entry.time) v.edges (record { pending = n.others; taken = e.taken })) _ d after_changes in
    let same : record { clock = n.entry.time; state = e.state; taken = p.taken; pending = p.pending } ≡ d = cc in
    subst (λ (d : Configuration). OneUrgent d.clock d.pending) same (edges-one_urgent g seed e.state n.entry.time v.edges some (exclusive u e at_receive at_changes) (record { pending = n.others; taken = e.taken }) p (others-not_urgent c.clock c.pending n late urgent next) at_edges)
