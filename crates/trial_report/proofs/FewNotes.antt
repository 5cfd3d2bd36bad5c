-- A look has few notes: at most two a step, and one at the end.
use Rattle.std.proofs.Common.{ℕ, ℤ, zero, suc, ◌+◌, ◌*◌, ◌≤◌, Bool, true, false, cond, nat_lt, List, [], ◌∷◌, length, length-append, Option, Some, None, Result, Ok, Err, arith}
use Rattle.std.specs.Prelude.{option_map, option_to_list, position}
use lib.Pointwise.{pointwise}
use Rattle.model_core.specs.EventGraph.{EventGraph}
use Rattle.model_core.specs.Run.Pending.{EntryAndRest, next_entry, same_values}
use Rattle.model_core.specs.Run.Step.{Configuration, Fault, step}
use Rattle.model_core.specs.Run.Machine.{At, On, Stopped, Move, Rests, Fails, Goes, before, after, look_of}
use Rattle.model_core.specs.Run.History.{Moment, NotesAndNoted, watched_values, watches, at_note, leave, noting_before_event, completed, stepped, comes, next_move, look_from}

-- how many notes a move has at most
Few : {S : Type 0} → Move S → Type 0
Few (Rests notes end) = length notes ≤ 1
Few (Fails notes end) = length notes ≤ 1
Few (Goes notes s) = length notes ≤ 2

module _ (t : ℕ) (values : List (List ℤ)) where
  few-new : (same : Bool) → length (cond same [] (At t values ∷ [])) ≤ 1
  few-new true = omega arith
  few-new false = omega arith

  few-at : (noted : Option (List (List ℤ))) → length (at_note t values noted) ≤ 1
  few-at None = omega arith
  few-at (Some last) = few-new (pointwise same_values last values)

module _ (g : EventGraph) (m : Moment) where
  few-left : length (leave g m).notes ≤ 1
  few-left = few-at m.now.clock (watched_values g.watch m.now.state) m.noted

  few-for : (b : Bool) → length (cond b (leave g m) (record { notes = []; noted = m.noted })).notes ≤ 1
  few-for true = few-left
  few-for false = omega arith

few-placed : (c : Configuration) (values : List (List ℤ)) (found : Option ℕ) → length (option_to_list (option_map (λ place. On c.clock place values) found)) ≤ 1
few-placed c values None = omega arith
few-placed c values (Some place) = omega arith

few-completed : (g : EventGraph) (vertex : ℕ) (c : Configuration) → length (completed g vertex c) ≤ 1
few-completed g vertex c = few-placed c (watched_values g.watch c.state) (position (watches vertex) g.watch)

few-stepped : (g : EventGraph) (vertex : ℕ) (left : NotesAndNoted) → length left.notes ≤ 1 → (r : Result Configuration Fault) → Few (stepped g vertex left r)
unfolding Few
few-stepped g vertex left few (Ok c) = let more = few-completed g vertex c in omega (arith, few, more, length-append left.notes (completed g vertex c))
few-stepped g vertex left few (Err f) = few

few-by : (g : EventGraph) (m : Moment) (n : EntryAndRest) (r : Result Configuration Fault) (b : Bool) → Few (cond b (Rests (leave g m).notes Stopped) (stepped g n.entry.vertex (noting_before_event g m n.entry.time) r))
unfolding Few
few-by g m n r true = few-left g m
few-by g m n r false = few-stepped g n.entry.vertex (noting_before_event g m n.entry.time) (few-for g m (nat_lt m.now.clock n.entry.time)) r

few-comes : (g : EventGraph) (seed until : ℕ) (m : Moment) (next : Option EntryAndRest) → Few (comes g seed until m next)
unfolding Few
few-comes g seed until m None = few-left g m
few-comes g seed until m (Some n) = few-by g m n (step g seed m.now n) (nat_lt until n.entry.time)

module _ {S : Type 0} (move : S → Move S) (few : (s : S) → Few (move s)) where
  at-once : (v : Move S) → Few v → length (before v).history ≤ 1
  unfolding Few
  at-once (Rests notes end) h = h
  at-once (Fails notes end) h = omega arith
  at-once (Goes notes s) h = omega arith

  in-turn : (n : ℕ) → ((s : S) → length (look_of move n s).history ≤ 2 * n + 1) → (v : Move S) → Few v → length (after (look_of move n) v).history ≤ 2 * suc n + 1
  unfolding Few
  in-turn n later (Rests notes end) h = omega (arith, h)
  in-turn n later (Fails notes end) h = omega (arith, h)
  in-turn n later (Goes notes s) h = let more = later s in omega (arith, h, more, length-append notes (look_of move n s).history)

  few-looks : (n : ℕ) (s : S) → length (look_of move n s).history ≤ 2 * n + 1
  few-looks zero s = let once = at-once (move s) (few s) in omega (arith, once)
  few-looks (suc n) s = in-turn n (few-looks n) (move s) (few s)

pub few_notes : (g : EventGraph) (seed until n : ℕ) (m : Moment) → length (look_from g seed until n m).history ≤ 2 * n + 1
few_notes g seed until n m = few-looks (next_move g seed until) (λ s. few-comes g seed until s (next_entry s.now.pending)) n m
