-- The edges of an event, and what is left of them where variables go.
use Rattle.std.proofs.Common.{◌≡◌, ℕ, ◌+◌, ℤ, ◌==◌, Bool, true, false, cond, ◌&&◌, List, map, Ok, refl, sym, ◌∙◌, ap, ap₂, subst}
use Rattle.std.proofs.lemmas.List.{map-append}
use Rattle.std.specs.List.{AllByRecursion}
use Rattle.std.proofs.lemmas.Bool.{eqb-true}
use Rattle.sig_base.proofs.Lists.{every-always}
use Rattle.sig_base.specs.Stream.{word}
use Rattle.model_core.specs.EventGraph.{EventGraph, EventEdge, Delay, Fixed, Drawn, EdgeKind, Schedule, Urgent, CancelNext, CancelEqual, CancelAll}
use Rattle.model_core.specs.Run.State.{State}
use Rattle.model_core.specs.Run.Value.{OrFault, ◌>>=◌, in_turn, value_of, is_one}
use Rattle.model_core.specs.Run.Changes.{taken_from, one_more, drawn_value}
use Rattle.model_core.specs.Run.Pending.{Entry, is_of, is_event_with, same_values, without_next}
use Rattle.model_core.specs.Run.Edges.{EdgeState, Waiting, delay_ticks, delay_of, scheduled, act, treat_edge}
use Rattle.model_core.specs.Run.Step.{vertex_at}
use Rattle.model_core.specs.Rules.MarkedPlaces.{rank}
use Rattle.model_core.specs.Rules.Uses.{delay_reads, delay_streams}
use Rattle.model_core.specs.Rules.Slice.{delay_renumbered, items_where_marked, sliced_kind, sliced_edge, of_marked_variables}
use Rattle.model_core.proofs.Alongside.{Alongside, both_go, bind-alongside, bind-alongside-same, in_turn-alongside}
use Rattle.run_laws.proofs.MappedPending.{KeepsDue, without_next-mapped, without_all-mapped, without_next-every, without_all-every}
use Rattle.run_laws.proofs.LockStep.{entry_mapped}
use Rattle.mark_laws.proofs.Marks.{Marked}
use Rattle.model_core.proofs.EachOne.{every-joined}
use Rattle.var_slicing.proofs.StoresLeft.{StateLeft}
use Rattle.var_slicing.proofs.ValuesLeft.{ReadsMarked, all-items_where_marked, CanBeStored, ValuesFit, ValuesKept, value-left, values-alongside}
use Rattle.var_slicing.proofs.ChangesLeft.{same_drawn}
use Rattle.var_slicing.proofs.MaskedWords.{words_left, words_left-more}

-- the values that an entry carries for parameters that stay
abbrev pub carried_left : EventGraph → List Bool → Entry → List ℤ
carried_left g marks e = items_where_marked marks (vertex_at g e.vertex).parameters e.values

abbrev pub entry_left : EventGraph → List Bool → Entry → Entry
entry_left g marks = entry_mapped (λ v. v) (carried_left g marks)

-- what is carried for a variable that goes can be stored in it
abbrev pub EntryFits : EventGraph → List Bool → Entry → Type 0
EntryFits g marks e = CanBeStored g marks (vertex_at g e.vertex).parameters e.values

keeps_due : (g : EventGraph) (marks : List Bool) → KeepsDue (entry_left g marks)
keeps_due g marks = record { times = λ e. refl; priorities = λ e. refl }

-- ---- tests of entries

with-left : (g : EventGraph) (marks : List Bool) (target : ℕ) (xs : List ℤ) → AllByRecursion (Marked marks) (vertex_at g target).parameters → (e : Entry) → is_event_with target xs (entry_left g marks e) ≡ is_event_with target xs e
with-left g marks target xs all e = one (e.vertex == target) refl where
  one : (b : Bool) → (e.vertex == target) ≡ b → (b && same_values (carried_left g marks e) xs) ≡ (b && same_values e.values xs)
  one true is = ap (λ ys. same_values ys xs) (all-items_where_marked marks (vertex_at g e.vertex).parameters e.values (subst (λ k. AllByRecursion (Marked marks) (vertex_at g k).parameters) (sym (eqb-true e.vertex target is)) all))
  one false is = refl

-- ---- edges

abbrev pub CarriedFit : EventGraph → List Bool → State → ℕ → EventEdge → Type 0
CarriedFit g marks s clk e = ValuesFit g marks s clk (vertex_at g e.target).parameters e.values

-- a delay reads marked variables alone
abbrev pub DelayReadsMarked : List Bool → Delay → Type 0
DelayReadsMarked marks delay = AllByRecursion (Marked marks) (delay_reads delay)

-- and the stream of a drawn one is live
abbrev pub DelayFits : List Bool → List Bool → Delay → Type 0
DelayFits marks live delay = DelayReadsMarked marks delay × AllByRecursion (Marked live) (delay_streams delay)

abbrev pub KindFits : EventGraph → List Bool → List Bool → State → ℕ → EventEdge → EdgeKind → Type 0
KindFits g marks live s clk e (Schedule delay priority) = DelayFits marks live delay × CarriedFit g marks s clk e
KindFits g marks live s clk e Urgent = CarriedFit g marks s clk e
KindFits g marks live s clk e CancelNext = Unit {0}
KindFits g marks live s clk e CancelEqual = AllByRecursion (Marked marks) (vertex_at g e.target).parameters × CarriedFit g marks s clk e
KindFits g marks live s clk e CancelAll = Unit {0}

-- in this state condition, delay and the values that stay read marked variables alone, what goes doesn't fault, and a stream
-- is live where the delay is drawn from it
abbrev pub EdgeFits : EventGraph → List Bool → List Bool → State → ℕ → EventEdge → Type 0
EdgeFits g marks live s clk e = ReadsMarked marks e.condition × KindFits g marks live s clk e e.kind

abbrev planned_left : EventGraph → List Bool → List Bool → EdgeState → EdgeState
planned_left g marks live p = record { pending = map (entry_left g marks) p.pending; taken = words_left live p.taken }

-- the one plan is what is left of the other
abbrev pub PlannedLeft : EventGraph → List Bool → List Bool → EdgeState → EdgeState → Type 0
PlannedLeft g marks live p q = (planned_left g marks live p ≡ q) × AllByRecursion (EntryFits g marks) p.pending

module _ (g : EventGraph) (marks live : List Bool) (seed : ℕ) (s t : State) (left : StateLeft marks s t) (clk : ℕ) where
  abbrev h : EventGraph
  h = of_marked_variables g marks

  abbrev Plans : EdgeState → EdgeState → Type 0
  Plans = PlannedLeft g marks live

  of-left : (target : ℕ) (p : List Entry) → AllByRecursion (λ e. is_of target (entry_left g marks e) ≡ is_of target e) p
  of-left target p = every-always (λ (e : Entry). is_of target (entry_left g marks e) ≡ is_of target e) (λ e. refl) p

  scheduled-left : (time priority target : ℕ) (xs ys : List ℤ) (taken : List ℕ) → ValuesKept g marks (vertex_at g target).parameters xs ys → (p : List Entry) → AllByRecursion (EntryFits g marks) p → Alongside Plans (Ok (record { pending = scheduled time priority target p xs; taken = taken })) (Ok (record { pending = scheduled time priority target (map (entry_left g marks) p) ys; taken = words_left live taken }))
  scheduled-left time priority target xs ys taken (same, fit) p all =
      both_go (ap (λ (l : List Entry). record { pending = l; taken = words_left live taken }) (map-append (entry_left g marks) p _ ∙ ap (λ (ys : List ℤ). scheduled time priority target (map (entry_left g marks) p) ys) same), every-joined (EntryFits g marks) p _ all (fit, tt))

  -- a delay, and the words taken by then
  abbrev Waits : Waiting → Waiting → Type 0
  Waits a b = (a.ticks ≡ b.ticks) × (words_left live a.taken ≡ b.taken)

  delay-left : (delay : Delay) → DelayFits marks live delay → (taken : List ℕ) → Alongside Waits (delay_of g seed s clk delay taken) (delay_of h seed t clk (delay_renumbered (rank marks) delay) (words_left live taken))
  delay-left (Fixed e) (reads, lives) taken =
      subst (λ (r : OrFault ℤ). Alongside Waits (delay_of g seed s clk (Fixed e) taken) (r >>= λ wait. delay_ticks wait >>= λ n. Ok (record { ticks = n; taken = words_left live taken }))) (sym (value-left g marks s t left clk e reads))
      (bind-alongside-same Waits (value_of g s clk e) _ _ (λ wait a.
      bind-alongside-same Waits (delay_ticks wait) _ _ (λ n b. both_go (refl, refl))))
  delay-left (Drawn stream choice) (reads, lives) taken =
      let x = drawn_value g choice (word seed stream (taken_from taken stream)) in
      subst (λ (z : ℤ). Alongside Waits (delay_of g seed s clk (Drawn stream choice) taken) (delay_ticks z >>= λ n. Ok (record { ticks = n; taken = one_more (words_left live taken) stream }))) (sym (same_drawn g marks live seed choice stream taken lives.0))
      (bind-alongside-same Waits (delay_ticks x) _ _ (λ n b. both_go (refl, words_left-more live taken stream lives.0)))

  act-left : (e : EventEdge) (kind : EdgeKind) → KindFits g marks live s clk e kind → (p : EdgeState) → AllByRecursion (EntryFits g marks) p.pending → Alongside Plans (act g seed s clk e kind p) (act h seed t clk (sliced_edge g marks e) (sliced_kind marks kind) (planned_left g marks live p))
  act-left e (Schedule delay priority) (waits, fit) p all =
      bind-alongside Waits Plans (delay-left delay waits p.taken) _ _ (λ a b (ticks, words).
      bind-alongside (ValuesKept g marks (vertex_at g e.target).parameters) Plans (values-alongside g marks s t left clk (vertex_at g e.target).parameters e.values fit) _ _ (λ xs ys kept.
      subst (λ (b : Waiting). Alongside Plans (Ok (record { pending = scheduled (clk + a.ticks) priority e.target p.pending xs; taken = a.taken })) (Ok (record { pending = scheduled (clk + b.ticks) priority e.target (map (entry_left g marks) p.pending) ys; taken = b.taken }))) (waiting-same a b ticks words)
      (scheduled-left (clk + a.ticks) priority e.target xs ys a.taken kept p.pending all))) where
        waiting-same : (a b : Waiting) → a.ticks ≡ b.ticks → words_left live a.taken ≡ b.taken → record { ticks = a.ticks; taken = words_left live a.taken } ≡ b
        waiting-same a b ticks words = ap₂ (λ (n : ℕ) (ns : List ℕ). let w : Waiting = record { ticks = n; taken = ns } in w) ticks words
  act-left e Urgent fit p all =
      bind-alongside (ValuesKept g marks (vertex_at g e.target).parameters) Plans (values-alongside g marks s t left clk (vertex_at g e.target).parameters e.values fit) _ _ (λ xs ys kept.
      scheduled-left clk 0 e.target xs ys p.taken kept p.pending all)
  act-left e CancelNext fit p all =
      both_go (ap (λ (l : List Entry). record { pending = l; taken = words_left live p.taken }) (sym (without_next-mapped (entry_left g marks) (keeps_due g marks) (is_of e.target) (is_of e.target) p.pending (of-left e.target p.pending))), without_next-every (EntryFits g marks) (is_of e.target) p.pending all)
  act-left e CancelEqual (needed, fit) p all =
      bind-alongside (ValuesKept g marks (vertex_at g e.target).parameters) Plans (values-alongside g marks s t left clk (vertex_at g e.target).parameters e.values fit) _ _ (λ xs ys (same, stored).
      let whole : xs ≡ ys = sym (all-items_where_marked marks (vertex_at g e.target).parameters xs needed) ∙ same in
      subst (λ (ys : List ℤ). Alongside Plans (Ok (record p { pending = without_next (is_event_with e.target xs) p.pending })) (Ok (record { pending = without_next (is_event_with e.target ys) (map (entry_left g marks) p.pending); taken = words_left live p.taken }))) whole
      (both_go (ap (λ (l : List Entry). record { pending = l; taken = words_left live p.taken }) (sym (without_next-mapped (entry_left g marks) (keeps_due g marks) (is_event_with e.target xs) (is_event_with e.target xs) p.pending (every-always (λ (x : Entry). is_event_with e.target xs (entry_left g marks x) ≡ is_event_with e.target xs x) (with-left g marks e.target xs needed) p.pending))), without_next-every (EntryFits g marks) (is_event_with e.target xs) p.pending all)))
  act-left e CancelAll fit p all =
      both_go (ap (λ (l : List Entry). record { pending = l; taken = words_left live p.taken }) (sym (without_all-mapped (entry_left g marks) (is_of e.target) (is_of e.target) p.pending (of-left e.target p.pending))), without_all-every (EntryFits g marks) (is_of e.target) p.pending all)

  treat_edge-left : (e : EventEdge) → EdgeFits g marks live s clk e → (p : EdgeState) → AllByRecursion (EntryFits g marks) p.pending → Alongside Plans (treat_edge g seed s clk e p) (treat_edge h seed t clk (sliced_edge g marks e) (planned_left g marks live p))
  treat_edge-left e (reads, fit) p all =
      subst (λ (c : OrFault ℤ). Alongside Plans (treat_edge g seed s clk e p) (c >>= λ c. cond (is_one c) (act h seed t clk (sliced_edge g marks e) (sliced_kind marks e.kind) (planned_left g marks live p)) (Ok (planned_left g marks live p)))) (sym (value-left g marks s t left clk e.condition reads))
      (bind-alongside-same Plans (value_of g s clk e.condition) _ _ (λ c a. tested (is_one c))) where
        tested : (b : Bool) → Alongside Plans (cond b (act g seed s clk e e.kind p) (Ok p)) (cond b (act h seed t clk (sliced_edge g marks e) (sliced_kind marks e.kind) (planned_left g marks live p)) (Ok (planned_left g marks live p)))
        tested true = act-left e e.kind fit p all
        tested false = both_go (refl, all)

  treat_edge-alongside : (e : EventEdge) → EdgeFits g marks live s clk e → (p q : EdgeState) → Plans p q → Alongside Plans (treat_edge g seed s clk e p) (treat_edge h seed t clk (sliced_edge g marks e) q)
  treat_edge-alongside e fit p q (same, all) = subst (λ (q : EdgeState). Alongside Plans (treat_edge g seed s clk e p) (treat_edge h seed t clk (sliced_edge g marks e) q)) same (treat_edge-left e fit p all)

  pub edges-alongside : (es : List EventEdge) → AllByRecursion (EdgeFits g marks live s clk) es → (p q : EdgeState) → Plans p q → Alongside Plans (in_turn (treat_edge g seed s clk) es p) (in_turn (treat_edge h seed t clk) (map (sliced_edge g marks) es) q)
  edges-alongside es fit p q plans = in_turn-alongside (EdgeFits g marks live s clk) (sliced_edge g marks) Plans (treat_edge g seed s clk) (treat_edge h seed t clk) treat_edge-alongside es fit p q plans
