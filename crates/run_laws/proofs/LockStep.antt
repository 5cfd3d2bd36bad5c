-- Two models in lock step: the second's moments are those of the first, with states, words, vertices and values mapped.
use Rattle.std.proofs.Common.{◌≡◌, ℕ, ◌^◌, ◌≤◌, ℤ, Bool, true, false, cond, nat_lt, List, [], ◌++◌, map, Option, Some, None, option_map, refl, sym, ap, ap₂, subst, le_trans}
use Rattle.std.specs.Prelude.{option_to_list, position}
use Rattle.std.proofs.lemmas.Bool.{ltb-false}
use Rattle.model_core.specs.EventGraph.{EventGraph}
use Rattle.model_core.specs.Run.State.{State}
use Rattle.model_core.specs.Run.Value.{OrFault}
use Rattle.model_core.specs.Run.Pending.{Entry, EntryAndRest, next_entry}
use Rattle.model_core.specs.Run.Step.{Configuration, vertex_at, occur, faulted_at, step}
use Rattle.model_core.specs.Run.Machine.{Note, On, RunStatus, Ended, Stopped, Rests, Goes}
use Rattle.model_core.specs.Run.History.{Moment, NotesAndNoted, leave, noting_before_event, at_note, watched_values, watches, completed, stepped, comes, next_move, start, look}
use Rattle.model_core.specs.Run.Same.{SameLooks}
use Rattle.run_laws.proofs.Simulation.{Answers, rests, fails, goes, lock_step_same}
use Rattle.model_core.proofs.Alongside.{Alongside, both_go, both_fail}
use Rattle.sig_base.proofs.Lists.{every-always}
use Rattle.run_laws.proofs.MappedPending.{taken_off_mapped, next_among-mapped}

-- an entry with its vertex and its values mapped
abbrev pub entry_mapped : (ℕ → ℕ) → (Entry → List ℤ) → Entry → Entry
entry_mapped vertices values e = record { time = e.time; priority = e.priority; vertex = vertices e.vertex; values = values e }

abbrev pub configuration_mapped : (State → State) → (List ℕ → List ℕ) → (Entry → Entry) → Configuration → Configuration
configuration_mapped states words entries c = record { clock = c.clock; state = states c.state; taken = words c.taken; pending = map entries c.pending }

module _ (g h : EventGraph) (states : State → State) (words : List ℕ → List ℕ) (vertices : ℕ → ℕ) (values : Entry → List ℤ) (Sound : Configuration → Type 0) where
  abbrev pub entries : Entry → Entry
  entries = entry_mapped vertices values

  abbrev pub Mapped : Configuration → Configuration → Type 0
  Mapped c d = (configuration_mapped states words entries c ≡ d) × Sound c

  -- each step is followed
  pub record Follows (seed : ℕ) : Type 0 where
    pub watched : (s : State) → watched_values g.watch s ≡ watched_values h.watch (states s)
    pub places : (c : Configuration) (n : EntryAndRest) → Sound c → next_entry c.pending ≡ Some n → position (watches n.entry.vertex) g.watch ≡ position (watches (vertices n.entry.vertex)) h.watch
    pub steps : (c : Configuration) (n : EntryAndRest) → Sound c → next_entry c.pending ≡ Some n → n.entry.time ≤ 2 ^ 48 → Alongside Mapped (occur g seed (vertex_at g n.entry.vertex) n c.state c.taken) (occur h seed (vertex_at h (vertices n.entry.vertex)) (taken_off_mapped entries n) (states c.state) (words c.taken))

  module _ (seed : ℕ) (ok : Follows seed) (until : ℕ) (early : until ≤ 2 ^ 48) where
    abbrev moment_mapped : Moment → Moment
    moment_mapped m = record { now = configuration_mapped states words entries m.now; noted = m.noted }

    abbrev Level : Moment → Moment → Type 0
    Level m k = (moment_mapped m ≡ k) × Sound m.now

    completed-same : (v w : ℕ) → position (watches v) g.watch ≡ position (watches w) h.watch → (c d : Configuration) → Mapped c d → completed g v c ≡ completed h w d
    completed-same v w place c d (same, sound) = subst (λ (d : Configuration). completed g v c ≡ completed h w d) same
        (ap₂ (λ (o : Option ℕ) (values : List (List ℤ)). option_to_list (option_map (λ place. On c.clock place values) o)) place (ok.watched c.state))

    stepped-answers : (time v w : ℕ) → position (watches v) g.watch ≡ position (watches w) h.watch → (left : NotesAndNoted) {a b : OrFault Configuration} → Alongside Mapped a b → Answers Level (stepped g v left (faulted_at time a)) (stepped h w left (faulted_at time b))
    stepped-answers time v w place left (both_go {s = c} {t = d} (same, sound)) =
        subst (λ (notes : List Note). Answers Level (Goes (left.notes ++ completed g v c) (record { now = c; noted = left.noted })) (Goes (left.notes ++ notes) (record { now = d; noted = left.noted }))) (completed-same v w place c d (same, sound))
        (goes (left.notes ++ completed g v c) (ap (λ (d : Configuration). record { now = d; noted = left.noted }) same, sound))
    stepped-answers time v w place left (both_fail k) = fails left.notes _

    leave-same : (m : Moment) → leave g m ≡ leave h (moment_mapped m)
    leave-same m = ap (λ (values : List (List ℤ)). let n : NotesAndNoted = record { notes = at_note m.now.clock values m.noted; noted = Some values } in n) (ok.watched m.now.state)

    rests-answers : (m : Moment) (end : RunStatus) → Answers Level (Rests (leave g m).notes end) (Rests (leave h (moment_mapped m)).notes end)
    rests-answers m end = subst (λ (left : NotesAndNoted). Answers Level (Rests (leave g m).notes end) (Rests left.notes end)) (leave-same m) (rests (leave g m).notes end)

    occurs-answers : (m : Moment) (n : EntryAndRest) → Sound m.now → next_entry m.now.pending ≡ Some n → n.entry.time ≤ 2 ^ 48 → Answers Level (stepped g n.entry.vertex (noting_before_event g m n.entry.time) (step g seed m.now n)) (stepped h (vertices n.entry.vertex) (noting_before_event h (moment_mapped m) n.entry.time) (step h seed (moment_mapped m).now (taken_off_mapped entries n)))
    occurs-answers m n sound next due =
        subst (λ (left : NotesAndNoted). Answers Level (stepped g n.entry.vertex (noting_before_event g m n.entry.time) (step g seed m.now n)) (stepped h (vertices n.entry.vertex) left (step h seed (moment_mapped m).now (taken_off_mapped entries n)))) (ap (λ (left : NotesAndNoted). cond (nat_lt m.now.clock n.entry.time) left (record { notes = []; noted = m.noted })) (leave-same m))
        (stepped-answers n.entry.time n.entry.vertex (vertices n.entry.vertex) (ok.places m.now n sound next) (noting_before_event g m n.entry.time) (ok.steps m.now n sound next due))

    comes-answers : (m : Moment) → Sound m.now → (o : Option EntryAndRest) → next_entry m.now.pending ≡ o → Answers Level (comes g seed until m o) (comes h seed until (moment_mapped m) (option_map (taken_off_mapped entries) o))
    comes-answers m sound None next = rests-answers m (Ended m.now.clock)
    comes-answers m sound (Some n) next = chosen (nat_lt until n.entry.time) refl where
      chosen : (b : Bool) → nat_lt until n.entry.time ≡ b → Answers Level (cond b (Rests (leave g m).notes Stopped) (stepped g n.entry.vertex (noting_before_event g m n.entry.time) (step g seed m.now n))) (cond b (Rests (leave h (moment_mapped m)).notes Stopped) (stepped h (vertices n.entry.vertex) (noting_before_event h (moment_mapped m) n.entry.time) (step h seed (moment_mapped m).now (taken_off_mapped entries n))))
      chosen true late = rests-answers m Stopped
      chosen false in_time = occurs-answers m n sound next (le_trans (ltb-false until n.entry.time in_time) early)

    level-step : (m k : Moment) → Level m k → Answers Level (next_move g seed until m) (next_move h seed until k)
    level-step m k (same, sound) =
        subst (λ (k : Moment). Answers Level (next_move g seed until m) (next_move h seed until k)) same
        (subst (λ (o : Option EntryAndRest). Answers Level (next_move g seed until m) (comes h seed until (moment_mapped m) o)) (sym (next_among-mapped entries (record { times = λ e. refl; priorities = λ e. refl }) (λ e. true) (λ e. true) m.now.pending (every-always (λ (e : Entry). true ≡ true) (λ e. refl) m.now.pending)))
        (comes-answers m sound (next_entry m.now.pending) refl))

    -- so the runs look the same
    pub follows-looks : (starts : List ℤ) → moment_mapped (start g starts) ≡ start h starts → Sound (start g starts).now → SameLooks (λ n. look g seed starts until n) (λ n. look h seed starts until n)
    follows-looks starts begins sound = lock_step_same (next_move g seed until) (next_move h seed until) Level level-step (start g starts) (start h starts) (begins, sound)
