-- Two models that are paired have the same looks.
use Rattle.std.proofs.Common.{◌≡◌, ℕ, ◌^◌, ◌≤◌, ℤ, Bool, true, false, cond, nat_lt, List, [], ◌∷◌, ◌++◌, map, replicate, Option, Some, None, option_map, Ok, Err, refl, sym, ap, ap₂, ◌∙◌, subst, le_trans, arith}
use Rattle.std.specs.Prelude.{option_to_list, position}
use Rattle.std.proofs.lemmas.Bool.{ltb-false}
use Rattle.std.proofs.lemmas.Bool.Decides.{nat_tests}
use Rattle.sig_base.specs.declared.fault.FaultKind.{FaultKind}
use Rattle.model_core.specs.EventGraph.{EventGraph, watched_variables}
use Rattle.model_core.specs.Run.State.{State, cells_of, initial_state}
use Rattle.model_core.specs.Run.Value.{OrFault, ◌>>=◌}
use Rattle.model_core.specs.Run.Pending.{Entry, EntryAndRest, next_entry}
use Rattle.model_core.specs.Run.Step.{Configuration, vertex_at, occur, faulted_at, step}
use Rattle.model_core.specs.Run.Machine.{Note, On, RunStatus, Ended, Stopped, Rests, Goes}
use Rattle.model_core.specs.Run.History.{Moment, NotesAndNoted, leave, noting_before_event, at_note, watched_values, watches, completed, stepped, comes, next_move, start, look}
use Rattle.model_core.specs.Run.Same.{Same}
use Rattle.model_core.proofs.Alongside.{Alongside, both_go, both_fail}
use Rattle.run_laws.proofs.Simulation.{Answers, rests, fails, goes, lock_step, equal_looks}
use Rattle.run_laws.proofs.MappedPending.{taken_off_mapped}
use Rattle.pair_laws.specs.Effects.{after_effects, Done, done_by, configuration_after, occur_by_effects}
use Rattle.alike_laws.specs.DeclaredAlike.{DeclaredAlike}
use Rattle.pair_laws.specs.Pairing.{Classes, entry_seen, effect_seen, StatesAgree, SameOutcome, DoneAgree, first_entry, Met, after_first, after_more, Pairing, PairedAlways}
use Rattle.order_laws.proofs.DueSorted.{sorted}
use Rattle.pair_laws.proofs.EventEffects.{event-effects}
use Rattle.pair_laws.proofs.EffectsInDueOrder.{effects-alike, to_sorted}
use Rattle.pair_laws.proofs.SeenEffects.{NextAlike, next-alike, seen-keeps, mapped-alike, next-mapped, effects-seen}

-- ---- what is watched

module _ (k l : Classes) where
  cells-agree : (s t : State) → StatesAgree k l s t → (xs ys : List ℕ) → map k.variables xs ≡ map l.variables ys → map (cells_of s) xs ≡ map (cells_of t) ys
  cells-agree s t agree [] [] same = refl
  cells-agree s t agree [] (y ∷ ys) same = cc
  cells-agree s t agree (x ∷ xs) [] same = cc
  cells-agree s t agree (x ∷ xs) (y ∷ ys) same =
      let one : k.variables x ≡ l.variables y = cc in
      let others : map k.variables xs ≡ map l.variables ys = cc in
      ap₂ (λ v (vs : List (List ℤ)). v ∷ vs) (agree x y one) (cells-agree s t agree xs ys others)

  -- ---- what effects leave

  abbrev pub SeenAlike : List Entry → List Entry → Type 0
  SeenAlike p q = sorted (map (entry_seen k) p) ≡ sorted (map (entry_seen l) q)

  seen-after : (d e : Done) → DoneAgree k l d e → (p q : List Entry) → SeenAlike p q → SeenAlike (after_effects d.effects p) (after_effects e.effects q)
  seen-after d e agree p q due =
      let fs = agree.first in
      let hs = agree.second in
      let seen_p = map (entry_seen k) p in
      let seen_q = map (entry_seen l) q in
      mapped-alike (entry_seen k) (seen-keeps k) (after_effects d.effects p) (after_effects fs p) (to_sorted (after_effects d.effects p) (after_effects fs p) (agree.by_first p))
      ∙ ap sorted (effects-seen k fs agree.first_alone p)
      ∙ effects-alike (map (effect_seen k) fs) seen_p seen_q due
      ∙ to_sorted (after_effects (map (effect_seen k) fs) seen_q) (after_effects (map (effect_seen l) hs) seen_q) (agree.seen seen_q)
      ∙ sym (ap sorted (effects-seen l hs agree.second_alone q))
      ∙ sym (mapped-alike (entry_seen l) (seen-keeps l) (after_effects e.effects q) (after_effects hs q) (to_sorted (after_effects e.effects q) (after_effects hs q) (agree.by_second q)))

module _ (g h : EventGraph) (k l : Classes) (seed : ℕ) (starts : List ℤ) (ok : Pairing g h k l seed starts) where
  -- configurations that are seen as the same
  record Level (c d : Configuration) : Type 0 where
    clock : c.clock ≡ d.clock
    states : StatesAgree k l c.state d.state
    taken : c.taken ≡ d.taken
    due : SeenAlike k l c.pending d.pending
    met : Met g seed starts c
    met_too : Met h seed starts d

  watched-same : (s t : State) → StatesAgree k l s t → watched_values g.watch s ≡ watched_values h.watch t
  watched-same s t agree = cells-agree k l s t agree (watched_variables g.watch) (watched_variables h.watch) ok.watched

  -- ---- events

  module _ (clk : ℕ) (n m : EntryAndRest) (n_time : n.entry.time ≡ clk) (m_time : m.entry.time ≡ clk) (due : SeenAlike k l n.others m.others) where
    done-alongside : (o q : OrFault Done) → SameOutcome (DoneAgree k l) o q
        → ((c : Configuration) → (o >>= λ d. Ok (configuration_after n.entry.time n.others d)) ≡ Ok c → Met g seed starts c)
        → ((c : Configuration) → (q >>= λ d. Ok (configuration_after m.entry.time m.others d)) ≡ Ok c → Met h seed starts c)
        → Alongside Level (o >>= λ d. Ok (configuration_after n.entry.time n.others d)) (q >>= λ d. Ok (configuration_after m.entry.time m.others d))
    done-alongside (Ok d) (Ok e) agree met met_too = both_go (record {
      clock = n_time ∙ sym m_time;
      states = agree.states;
      taken = agree.taken;
      due = seen-after k l d e agree n.others m.others due;
      met = met _ refl;
      met_too = met_too _ refl;
    })
    done-alongside (Ok d) (Err kind) agree met met_too = absurd agree
    done-alongside (Err kind) (Ok e) agree met met_too = absurd agree
    done-alongside (Err kind) (Err other) agree met met_too = subst (λ (f : FaultKind). Alongside Level (Err kind) (Err f)) agree (both_fail kind)

  completed-same : (v w : ℕ) → position (watches v) g.watch ≡ position (watches w) h.watch → (c d : Configuration) → Level c d → completed g v c ≡ completed h w d
  completed-same v w place c d level =
      ap₂ (λ (o : Option ℕ) (values : List (List ℤ)). option_to_list (option_map (λ place. On c.clock place values) o)) place (watched-same c.state d.state level.states)
      ∙ ap (λ clk. option_to_list (option_map (λ place. On clk place (watched_values h.watch d.state)) (position (watches w) h.watch))) level.clock

  -- ---- moments

  record Later (m q : Moment) : Type 0 where
    now : Level m.now q.now
    noted : m.noted ≡ q.noted

  data Related : Moment → Moment → Type 0 where
    begins : Related (start g starts) (start h starts)
    goes_on : {m q : Moment} → Later m q → Related m q

  stepped-answers : (time v w : ℕ) → position (watches v) g.watch ≡ position (watches w) h.watch → (left : NotesAndNoted) {a b : OrFault Configuration} → Alongside Level a b → Answers Related (stepped g v left (faulted_at time a)) (stepped h w left (faulted_at time b))
  stepped-answers time v w place left (both_go {s = c} {t = d} level) =
      subst (λ (notes : List Note). Answers Related (Goes (left.notes ++ completed g v c) (record { now = c; noted = left.noted })) (Goes (left.notes ++ notes) (record { now = d; noted = left.noted }))) (completed-same v w place c d level)
      (goes (left.notes ++ completed g v c) (goes_on (record { now = level; noted = refl })))
  stepped-answers time v w place left (both_fail kind) = fails left.notes _

  leave-same : (m q : Moment) → Later m q → leave g m ≡ leave h q
  leave-same m q later =
      ap₂ (λ (values : List (List ℤ)) (noted : Option (List (List ℤ))). let n : NotesAndNoted = record { notes = at_note m.now.clock values noted; noted = Some values } in n) (watched-same m.now.state q.now.state later.now.states) later.noted
      ∙ ap (λ clk. let n : NotesAndNoted = record { notes = at_note clk (watched_values h.watch q.now.state) q.noted; noted = Some (watched_values h.watch q.now.state) } in n) later.now.clock

  rests-answers : (m q : Moment) → Later m q → (end : RunStatus) → Answers Related (Rests (leave g m).notes end) (Rests (leave h q).notes end)
  rests-answers m q later end = subst (λ (left : NotesAndNoted). Answers Related (Rests (leave g m).notes end) (Rests left.notes end)) (leave-same m q later) (rests (leave g m).notes end)

  noting-same : (m q : Moment) → Later m q → (time : ℕ) → noting_before_event g m time ≡ noting_before_event h q time
  noting-same m q later time = noting (nat_lt m.now.clock time) (nat_lt q.now.clock time) (ap (λ clk. nat_lt clk time) later.now.clock) where
    noting : (b c : Bool) → b ≡ c → cond b (leave g m) (record { notes = []; noted = m.noted }) ≡ cond c (leave h q) (record { notes = []; noted = q.noted })
    noting b c same = ap₂ (λ (a : NotesAndNoted) (o : Option (List (List ℤ))). cond b a (record { notes = []; noted = o })) (leave-same m q later) later.noted ∙ ap (λ b. cond b (leave h q) (record { notes = []; noted = q.noted })) same

  module _ (until : ℕ) (early : until ≤ 2 ^ 48) where
    occurs-answers : (m q : Moment) (n r : EntryAndRest) → Later m q → next_entry m.now.pending ≡ Some n → next_entry q.now.pending ≡ Some r → entry_seen k n.entry ≡ entry_seen l r.entry → SeenAlike k l n.others r.others → n.entry.time ≤ 2 ^ 48
        → Answers Related (stepped g n.entry.vertex (noting_before_event g m n.entry.time) (step g seed m.now n)) (stepped h r.entry.vertex (noting_before_event h q r.entry.time) (step h seed q.now r))
    occurs-answers m q n r later at_n at_r same due soon =
        let time : n.entry.time ≡ r.entry.time = ap (λ (e : Entry). e.time) same in
        let class : k.vertices n.entry.vertex ≡ l.vertices r.entry.vertex = ap (λ (e : Entry). e.vertex) same in
        let first = event-effects g seed (vertex_at g n.entry.vertex) n m.now.state m.now.taken in
        let second = event-effects h seed (vertex_at h r.entry.vertex) r q.now.state q.now.taken in
        let beside : Alongside Level (occur_by_effects g seed (vertex_at g n.entry.vertex) n m.now.state m.now.taken) (occur_by_effects h seed (vertex_at h r.entry.vertex) r q.now.state q.now.taken) =
        done-alongside n.entry.time n r refl (sym time) due
        (done_by g seed (vertex_at g n.entry.vertex) n.entry.time n.entry.values m.now.state m.now.taken) (done_by h seed (vertex_at h r.entry.vertex) r.entry.time r.entry.values q.now.state q.now.taken)
        (ok.events m.now q.now n r later.now.met later.now.met_too later.now.states later.now.taken at_n at_r same soon)
        (λ c e. after_more m.now c n later.now.met at_n soon (first ∙ e))
        (λ c e. after_more q.now c r later.now.met_too at_r (subst (λ t. t ≤ 2 ^ 48) time soon) (second ∙ e)) in
        let beside_so = subst (λ (a : OrFault Configuration). Alongside Level a (occur h seed (vertex_at h r.entry.vertex) r q.now.state q.now.taken)) (sym first) (subst (λ (b : OrFault Configuration). Alongside Level (occur_by_effects g seed (vertex_at g n.entry.vertex) n m.now.state m.now.taken) b) (sym second) beside) in
        subst (λ (left : NotesAndNoted). Answers Related (stepped g n.entry.vertex (noting_before_event g m n.entry.time) (step g seed m.now n)) (stepped h r.entry.vertex left (step h seed q.now r)))
        (noting-same m q later n.entry.time ∙ ap (noting_before_event h q) time)
        (subst (λ t. Answers Related (stepped g n.entry.vertex (noting_before_event g m n.entry.time) (faulted_at n.entry.time (occur g seed (vertex_at g n.entry.vertex) n m.now.state m.now.taken))) (stepped h r.entry.vertex (noting_before_event g m n.entry.time) (faulted_at t (occur h seed (vertex_at h r.entry.vertex) r q.now.state q.now.taken)))) time
        (stepped-answers n.entry.time n.entry.vertex r.entry.vertex (ok.places n.entry.vertex r.entry.vertex class) (noting_before_event g m n.entry.time) beside_so))

    comes-answers : (m q : Moment) → Later m q → (o p : Option EntryAndRest) → next_entry m.now.pending ≡ o → next_entry q.now.pending ≡ p → NextAlike (option_map (taken_off_mapped (entry_seen k)) o) (option_map (taken_off_mapped (entry_seen l)) p) → Answers Related (comes g seed until m o) (comes h seed until q p)
    comes-answers m q later None None at_n at_r alike =
        subst (λ clk. Answers Related (Rests (leave g m).notes (Ended m.now.clock)) (Rests (leave h q).notes (Ended clk))) later.now.clock (rests-answers m q later (Ended m.now.clock))
    comes-answers m q later None (Some r) at_n at_r alike = absurd alike
    comes-answers m q later (Some n) None at_n at_r alike = absurd alike
    comes-answers m q later (Some n) (Some r) at_n at_r (same, due) =
        subst (λ t. Answers Related (comes g seed until m (Some n)) (cond (nat_lt until t) (Rests (leave h q).notes Stopped) (stepped h r.entry.vertex (noting_before_event h q r.entry.time) (step h seed q.now r)))) (ap (λ (e : Entry). e.time) same)
        (chosen (nat_lt until n.entry.time) refl) where
          chosen : (b : Bool) → nat_lt until n.entry.time ≡ b → Answers Related (cond b (Rests (leave g m).notes Stopped) (stepped g n.entry.vertex (noting_before_event g m n.entry.time) (step g seed m.now n))) (cond b (Rests (leave h q).notes Stopped) (stepped h r.entry.vertex (noting_before_event h q r.entry.time) (step h seed q.now r)))
          chosen true late = rests-answers m q later Stopped
          chosen false in_time = occurs-answers m q n r later at_n at_r same due (le_trans (ltb-false until n.entry.time in_time) early)

    later-answers : (m q : Moment) → Later m q → Answers Related (next_move g seed until m) (next_move h seed until q)
    later-answers m q later =
        let alike : NextAlike (next_entry (map (entry_seen k) m.now.pending)) (next_entry (map (entry_seen l) q.now.pending)) =
        next-alike (map (entry_seen k) m.now.pending) (map (entry_seen l) q.now.pending) later.now.due (next_entry (map (entry_seen k) m.now.pending)) (next_entry (map (entry_seen l) q.now.pending)) refl refl in
        comes-answers m q later (next_entry m.now.pending) (next_entry q.now.pending) refl refl
        (subst (λ (o : Option EntryAndRest). NextAlike o (option_map (taken_off_mapped (entry_seen l)) (next_entry q.now.pending))) (next-mapped (entry_seen k) (seen-keeps k) m.now.pending)
        (subst (λ (o : Option EntryAndRest). NextAlike (next_entry (map (entry_seen k) m.now.pending)) o) (next-mapped (entry_seen l) (seen-keeps l) q.now.pending) alike))

    -- the first event: nothing is noted before it
    first-answers : Answers Related (next_move g seed until (start g starts)) (next_move h seed until (start h starts))
    first-answers =
        let n = first_entry starts in
        let first = event-effects g seed (vertex_at g 0) n (initial_state g) (replicate 64 0) in
        let second = event-effects h seed (vertex_at h 0) n (initial_state h) (replicate 64 0) in
        let beside : Alongside Level (occur_by_effects g seed (vertex_at g 0) n (initial_state g) (replicate 64 0)) (occur_by_effects h seed (vertex_at h 0) n (initial_state h) (replicate 64 0)) =
        done-alongside 0 n n refl refl refl
        (done_by g seed (vertex_at g 0) 0 starts (initial_state g) (replicate 64 0)) (done_by h seed (vertex_at h 0) 0 starts (initial_state h) (replicate 64 0))
        ok.first_events (λ c e. after_first c (first ∙ e)) (λ c e. after_first c (second ∙ e)) in
        let beside_so = subst (λ (a : OrFault Configuration). Alongside Level a (occur h seed (vertex_at h 0) n (initial_state h) (replicate 64 0))) (sym first) (subst (λ (b : OrFault Configuration). Alongside Level (occur_by_effects g seed (vertex_at g 0) n (initial_state g) (replicate 64 0)) b) (sym second) beside) in
        let left : NotesAndNoted = record { notes = []; noted = None } in
        let never : nat_lt until 0 ≡ false = grind (arith, nat_tests) in
        subst (λ b. Answers Related (cond b (Rests (leave g (start g starts)).notes Stopped) (stepped g 0 left (step g seed (start g starts).now n))) (cond b (Rests (leave h (start h starts)).notes Stopped) (stepped h 0 left (step h seed (start h starts).now n)))) (sym never)
        (stepped-answers 0 0 0 ok.first_places left beside_so)

    answers : (m q : Moment) → Related m q → Answers Related (next_move g seed until m) (next_move h seed until q)
    answers _ _ begins = first-answers
    answers m q (goes_on later) = later-answers m q later

  pub looks : (until : ℕ) → until ≤ 2 ^ 48 → (n : ℕ) → look g seed starts until n ≡ look h seed starts until n
  looks until early n = lock_step (next_move g seed until) (next_move h seed until) Related (answers until early) n (start g starts) (start h starts) begins

pub looks-paired : (g h : EventGraph) (k l : Classes) (seed : ℕ) (starts : List ℤ) → Pairing g h k l seed starts → (until : ℕ) → until ≤ 2 ^ 48 → (n : ℕ) → look g seed starts until n ≡ look h seed starts until n
looks-paired g h k l seed starts ok = looks g h k l seed starts ok

pub paired-same : (g h : EventGraph) → DeclaredAlike g h → PairedAlways g h → Same g h
paired-same g h declared paired = record {
  watched = declared.watched;
  started = declared.started;
  runs = λ seed small starts ok until early.
      let (k, l, pairing) = paired seed small starts ok in
      equal_looks (λ n. look g seed starts until n) (λ n. look h seed starts until n) (looks g h k l seed starts pairing until early);
}
