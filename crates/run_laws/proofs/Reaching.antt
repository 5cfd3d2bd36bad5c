-- A look goes on from the moment that moves reach.
use Rattle.std.proofs.Common.{◌≡◌, ℕ, zero, suc, ◌+◌, Bool, true, false, cond, nat_lt, IsTrue, List, [], ◌++◌, Option, Some, None, option_map, Result, Ok, Err, refl, sym, ◌∙◌, ap, arith}
use Rattle.model_core.specs.EventGraph.{EventGraph}
use Rattle.model_core.specs.Run.Pending.{EntryAndRest, next_entry}
use Rattle.model_core.specs.Run.Step.{Configuration, Fault, step}
use Rattle.model_core.specs.Run.Machine.{Note, RunStatus, Stopped, Going, finished, Look, Move, Rests, Fails, Goes, ahead, before, after, look_of, Reached, reached_after_notes, onward, reached}
use Rattle.model_core.specs.Run.History.{Moment, NotesAndNoted, leave, noting_before_event, stepped, comes, next_move, look_from, reached_from}
use Rattle.model_core.proofs.Results.{option_map-some}
use Rattle.run_laws.proofs.Simulation.{ahead_ahead}

-- a moment reached by a first move and others
onward-Some : {S : Type 0} (later : S → Option (Reached S)) (m : Move S) (r : Reached S) → onward later m ≡ Some r → (notes : List Note) × (s : S) × (q : Reached S) × (m ≡ Goes notes s) × (later s ≡ Some q) × (reached_after_notes notes q ≡ r)
onward-Some later (Rests notes end) r e = cc
onward-Some later (Fails notes end) r e = cc
onward-Some later (Goes notes s) r e =
    let (q, there, same) = option_map-some (reached_after_notes notes) (later s) r e in
    (notes, s, q, refl, there, same)

-- the look after n moves and m more is the notes of the n moves, and then the look after m from where they lead
pub look_of-reached : {S : Type 0} (move : S → Move S) (n m : ℕ) (s : S) (r : Reached S) → reached move n s ≡ Some r → look_of move (n + m) s ≡ ahead r.notes (look_of move m r.moment)
look_of-reached move zero m s r e =
    let same : record { notes = []; moment = s } ≡ r = cc in
    let steps : zero + m ≡ m = omega arith in
    ap (λ k. look_of move k s) steps ∙ ap (λ r. ahead r.notes (look_of move m r.moment)) same
look_of-reached move (suc n) m s r e =
    let (notes, t, q, goes, there, same) = onward-Some (reached move n) (move s) r e in
    let steps : suc n + m ≡ suc (n + m) = omega arith in
    ap (λ k. look_of move k s) steps
    ∙ ap (after (look_of move (n + m))) goes
    ∙ ap (ahead notes) (look_of-reached move n m t q there)
    ∙ ahead_ahead notes q.notes (look_of move m q.moment)
    ∙ ap (λ r. ahead r.notes (look_of move m r.moment)) same

-- where a machine rests or fails, it is over
abbrev pub IsOver : {S : Type 0} → Move S → Type 0
IsOver (Rests notes end) = IsTrue (finished end)
IsOver (Fails notes end) = IsTrue (finished end)
IsOver (Goes notes s) = Unit {0}

-- moves that a look shows going on have all been made
abbrev Made : {S : Type 0} → Look → Option (Reached S) → Type 0
Made {S} seen there = seen.standing ≡ Going → (r : Reached S) × (there ≡ Some r) × (seen.history ≡ r.notes)

not_going : (end : RunStatus) → IsTrue (finished end) → end ≡ Going → ⊥
not_going end over e =
    let no : finished Going ≡ true = ap finished (sym e) ∙ over in cc

made-before : {S : Type 0} (m : Move S) (s : S) → IsOver m → Made (before m) (Some (record { notes = []; moment = s }))
made-before (Rests notes end) s over e = absurd (not_going end over e)
made-before (Fails notes end) s over e = (record { notes = []; moment = s }, refl, refl)
made-before (Goes notes t) s over e = (record { notes = []; moment = s }, refl, refl)

made-after : {S : Type 0} (later : S → Look) (there : S → Option (Reached S)) (m : Move S) → IsOver m → ((s : S) → Made (later s) (there s)) → Made (after later m) (onward there m)
made-after later there (Rests notes end) over made e = absurd (not_going end over e)
made-after later there (Fails notes end) over made e = absurd (not_going end over e)
made-after later there (Goes notes s) over made e =
    let (q, reached_so, shown) = made s e in
    (reached_after_notes notes q, ap (option_map (reached_after_notes notes)) reached_so, ap (λ h. notes ++ h) shown)

pub made-going : {S : Type 0} (move : S → Move S) → ((s : S) → IsOver (move s)) → (n : ℕ) (s : S) → Made (look_of move n s) (reached move n s)
made-going move over zero s = made-before (move s) s (over s)
made-going move over (suc n) s = made-after (look_of move n) (reached move n) (move s) (over s) (made-going move over n)

-- ---- runs

stepped-over : (g : EventGraph) (vertex : ℕ) (left : NotesAndNoted) (r : Result Configuration Fault) → IsOver (stepped g vertex left r)
stepped-over g vertex left (Ok c) = tt
stepped-over g vertex left (Err f) = refl

comes-over : (g : EventGraph) (seed until : ℕ) (m : Moment) (o : Option EntryAndRest) → IsOver (comes g seed until m o)
comes-over g seed until m None = refl
comes-over g seed until m (Some n) = chosen (nat_lt until n.entry.time) where
  chosen : (b : Bool) → IsOver (cond b (Rests (leave g m).notes Stopped) (stepped g n.entry.vertex (noting_before_event g m n.entry.time) (step g seed m.now n)))
  chosen true = refl
  chosen false = stepped-over g n.entry.vertex (noting_before_event g m n.entry.time) (step g seed m.now n)

pub looks_go_on : (g : EventGraph) (seed until n k : ℕ) (m : Moment) (r : Reached Moment) → reached_from g seed until n m ≡ Some r → look_from g seed until (n + k) m ≡ ahead r.notes (look_from g seed until k r.moment)
looks_go_on g seed until n k m r there = look_of-reached (next_move g seed until) n k m r there

pub going_is_reached : (g : EventGraph) (seed until n : ℕ) (m : Moment) → (look_from g seed until n m).standing ≡ Going → (r : Reached Moment) × (reached_from g seed until n m ≡ Some r) × ((look_from g seed until n m).history ≡ r.notes)
going_is_reached g seed until n m going = made-going (next_move g seed until) (λ m. comes-over g seed until m (next_entry m.now.pending)) n m going
