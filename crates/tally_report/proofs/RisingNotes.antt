-- The notes of a look rise in time up to the stop time, and there are at most two for each step and one at the end.
use Rattle.std.proofs.Common.{◌≡◌, ℕ, ℤ, zero, suc, ◌+◌, ◌*◌, ◌≤◌, le_trans, Bool, true, false, cond, nat_lt, List, [], ◌∷◌, ◌++◌, length, length-append, Option, Some, None, Result, Ok, Err, refl, sym, ap, arith}
use Rattle.std.proofs.lemmas.Bool.Decides.{nat_tests}
use Rattle.std.specs.Prelude.{option_map, option_to_list, position}
use lib.Pointwise.{pointwise}
use Rattle.model_core.specs.EventGraph.{EventGraph}
use Rattle.model_core.specs.Run.Value.{OrFault}
use Rattle.model_core.specs.Run.Pending.{EntryAndRest, next_entry, same_values}
use Rattle.model_core.specs.Run.Step.{Configuration, Fault, faulted_at, vertex_at, occur, step}
use Rattle.model_core.specs.Run.Machine.{Note, At, On, RunStatus, Ended, Stopped, Faulted, Look, Move, Rests, Fails, Goes, before, after, look_of}
use Rattle.model_core.specs.Run.History.{Moment, watched_values, watches, at_note, leave, noting_before_event, completed, stepped, comes, next_move, look_from}
use Rattle.run_laws.proofs.MappedPending.{next_among-every}
use Rattle.run_laws.proofs.OnTime.{NoneEarlier, step-on_time}
use Rattle.tally_report.specs.Tallying.{note_time, last_time}

-- the times of notes rise from one time to another
abbrev pub RisesTo : ℕ → List Note → ℕ → Type 0
RisesTo from [] to = from ≤ to
RisesTo from (note ∷ notes) to = (from ≤ note_time note) × RisesTo (note_time note) notes to

rises-sooner : (a b to : ℕ) (notes : List Note) → a ≤ b → RisesTo b notes to → RisesTo a notes to
rises-sooner a b to [] le rises = le_trans le rises
rises-sooner a b to (note ∷ notes) le (first, later) = (le_trans le first, later)

rises-append : (a b to : ℕ) (notes more : List Note) → RisesTo a notes b → RisesTo b more to → RisesTo a (notes ++ more) to
rises-append a b to [] more le rises = rises-sooner a b to more le rises
rises-append a b to (note ∷ notes) more (first, later) rises = (first, rises-append (note_time note) b to notes more later rises)

-- the end of a run is by the stop time
abbrev pub EndsBy : ℕ → RunStatus → Type 0
EndsBy until (Ended time) = time ≤ until
EndsBy until (Faulted time kind) = time ≤ until
EndsBy until other = Unit

-- few notes, which rise
record Rise (most from : ℕ) (notes : List Note) (to : ℕ) : Type 0 where
  rises : RisesTo from notes to
  few : length notes ≤ most

-- ---- the notes of one move

module _ (t to : ℕ) (le : t ≤ to) (values : List (List ℤ)) where
  noted-new : (same : Bool) → Rise 1 t (cond same [] (At t values ∷ [])) to
  noted-new true = record { rises = le; few = omega arith }
  noted-new false = record { rises = (omega arith, le); few = omega arith }

  noted-at : (noted : Option (List (List ℤ))) → Rise 1 t (at_note t values noted) to
  noted-at None = record { rises = (omega arith, le); few = omega arith }
  noted-at (Some last) = noted-new (pointwise same_values last values)

left-rises : (g : EventGraph) (m : Moment) (to : ℕ) → m.now.clock ≤ to → Rise 1 m.now.clock (leave g m).notes to
left-rises g m to le = noted-at m.now.clock to le (watched_values g.watch m.now.state) m.noted

left-for-rises : (g : EventGraph) (m : Moment) (to : ℕ) → m.now.clock ≤ to → (b : Bool) → Rise 1 m.now.clock (cond b (leave g m) (record { notes = []; noted = m.noted })).notes to
left-for-rises g m to le true = left-rises g m to le
left-for-rises g m to le false = record { rises = le; few = omega arith }

placed-rises : (t : ℕ) (values : List (List ℤ)) (found : Option ℕ) → Rise 1 t (option_to_list (option_map (λ place. On t place values) found)) t
placed-rises t values None = record { rises = omega arith; few = omega arith }
placed-rises t values (Some place) = record { rises = (omega arith, omega arith); few = omega arith }

completed-rises : (g : EventGraph) (vertex : ℕ) (c : Configuration) → Rise 1 c.clock (completed g vertex c) c.clock
completed-rises g vertex c = placed-rises c.clock (watched_values g.watch c.state) (position (watches vertex) g.watch)

-- the notes of a move from this clock, and where it leads
abbrev Fine : ℕ → ℕ → Move Moment → Type 0
Fine from until (Rests notes end) = Rise 1 from notes until × EndsBy until end
Fine from until (Fails notes end) = Rise 1 from notes until × EndsBy until end
Fine from until (Goes notes m) = Rise 2 from notes m.now.clock × (m.now.clock ≤ until) × NoneEarlier m.now.clock m.now.pending

time-of-fault : {A : Type 0} (t : ℕ) (r : OrFault A) (f : Fault) → faulted_at t r ≡ Err f → f.time ≡ t
time-of-fault t (Ok x) f e = cc
time-of-fault t (Err kind) f e =
    let same : record { time = t; kind = kind } ≡ f = cc in
    ap (λ (f : Fault). f.time) (sym same)

module _ (g : EventGraph) (seed until : ℕ) (m : Moment) (by : m.now.clock ≤ until) (none : NoneEarlier m.now.clock m.now.pending) where
  module _ (n : EntryAndRest) (at_next : next_entry m.now.pending ≡ Some n) (due : n.entry.time ≤ until) where
    not_past : m.now.clock ≤ n.entry.time
    not_past = (next_among-every (λ x. m.now.clock ≤ x.time) (λ x. true) m.now.pending none n at_next).0

    stepped-fine : (r : Result Configuration Fault) → step g seed m.now n ≡ r → Fine m.now.clock until (stepped g n.entry.vertex (noting_before_event g m n.entry.time) r)
    stepped-fine (Ok c) e =
        let (time, later) = step-on_time g seed m.now c n at_next e in
        let left : Rise 1 m.now.clock (noting_before_event g m n.entry.time).notes c.clock = left-for-rises g m c.clock (omega (arith, time, not_past)) (nat_lt m.now.clock n.entry.time) in
        let done = completed-rises g n.entry.vertex c in
        let few : length ((noting_before_event g m n.entry.time).notes ++ completed g n.entry.vertex c) ≤ 2 =
        omega (arith, left.few, done.few, length-append (noting_before_event g m n.entry.time).notes (completed g n.entry.vertex c)) in (
          record { rises = rises-append m.now.clock c.clock c.clock (noting_before_event g m n.entry.time).notes (completed g n.entry.vertex c) left.rises done.rises; few = few },
          omega (arith, time, due),
          later,
        )
    stepped-fine (Err f) e =
        let time = time-of-fault n.entry.time (occur g seed (vertex_at g n.entry.vertex) n m.now.state m.now.taken) f e in
        (left-for-rises g m until by (nat_lt m.now.clock n.entry.time), omega (arith, time, due))

  due-fine : (n : EntryAndRest) → next_entry m.now.pending ≡ Some n → (b : Bool) → nat_lt until n.entry.time ≡ b
      → Fine m.now.clock until (cond b (Rests (leave g m).notes Stopped) (stepped g n.entry.vertex (noting_before_event g m n.entry.time) (step g seed m.now n)))
  due-fine n at_next true is = (left-rises g m until by, tt)
  due-fine n at_next false is = stepped-fine n at_next (grind (arith, nat_tests)) (step g seed m.now n) refl

  comes-fine : (o : Option EntryAndRest) → next_entry m.now.pending ≡ o → Fine m.now.clock until (comes g seed until m o)
  comes-fine None is = (left-rises g m until by, by)
  comes-fine (Some n) is = due-fine n is (nat_lt until n.entry.time) refl

  move-fine : Fine m.now.clock until (next_move g seed until m)
  move-fine = comes-fine (next_entry m.now.pending) refl

-- ---- the notes of a look

-- all that is known of a look from a clock on
pub record FineLook (from until n : ℕ) (seen : Look) : Type 0 where
  pub rises : RisesTo from seen.history until
  pub ends : EndsBy until seen.standing
  pub few : length seen.history ≤ 2 * n + 1

at-once : (from until : ℕ) → from ≤ until → (v : Move Moment) → Fine from until v → FineLook from until 0 (before v)
at-once from until by (Rests notes end) fine = record { rises = fine.0.rises; ends = fine.1; few = omega (arith, fine.0.few) }
at-once from until by (Fails notes end) fine = record { rises = by; ends = tt; few = omega arith }
at-once from until by (Goes notes m) fine = record { rises = by; ends = tt; few = omega arith }

in-turn : (from until n : ℕ) (later : Moment → Look) → ((m : Moment) → m.now.clock ≤ until → NoneEarlier m.now.clock m.now.pending → FineLook m.now.clock until n (later m))
    → (v : Move Moment) → Fine from until v → FineLook from until (suc n) (after later v)
in-turn from until n later all (Rests notes end) fine = record { rises = fine.0.rises; ends = fine.1; few = omega (arith, fine.0.few) }
in-turn from until n later all (Fails notes end) fine = record { rises = fine.0.rises; ends = fine.1; few = omega (arith, fine.0.few) }
in-turn from until n later all (Goes notes m) (rise, by, none) =
    let rest = all m by none in
    record {
      rises = rises-append from m.now.clock until notes (later m).history rise.rises rest.rises;
      ends = rest.ends;
      few = omega (arith, rise.few, rest.few, length-append notes (later m).history);
    }

pub fine_look : (g : EventGraph) (seed until n : ℕ) (m : Moment) → m.now.clock ≤ until → NoneEarlier m.now.clock m.now.pending → FineLook m.now.clock until n (look_from g seed until n m)
fine_look g seed until zero m by none = at-once m.now.clock until by (next_move g seed until m) (move-fine g seed until m by none)
fine_look g seed until (suc n) m by none =
    in-turn m.now.clock until n (look_of (next_move g seed until) n) (λ later. fine_look g seed until n later) (next_move g seed until m) (move-fine g seed until m by none)

-- the last note comes by the time to which notes rise
pub note_by : (from to : ℕ) (notes : List Note) → RisesTo from notes to → last_time from notes ≤ to
note_by from to [] rises = rises
note_by from to (note ∷ notes) (first, later) = note_by (note_time note) to notes later
