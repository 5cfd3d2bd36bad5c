-- Two steps of a run are answered by one of the merged model.
use Rattle.std.proofs.Common.{◌≡◌, ℕ, ◌^◌, ◌≤◌, ℤ, Bool, true, false, cond, ◌==◌, nat_lt, List, [], ◌++◌, slice_index_or, Option, Some, None, Ok, Err, refl, sym, ◌∙◌, ap, subst, arith, le_trans}
use Rattle.std.proofs.lemmas.List.{append-nil}
use Rattle.std.proofs.lemmas.Bool.Decides.{nat_tests}
use Rattle.sig_base.specs.declared.fault.FaultKind.{FaultKind}
use Rattle.model_core.specs.EventGraph.{EventGraph, EventVertex, Expression}
use Rattle.model_core.specs.Run.Value.{OrFault, each, value_of}
use Rattle.model_core.specs.Run.Pending.{EntryAndRest, next_entry}
use Rattle.model_core.specs.Run.Step.{Configuration, no_vertex, vertex_at, occur, faulted_at, step}
use Rattle.model_core.specs.Run.Machine.{Note, Ended, Stopped, Faulted, Move, Rests, Fails, Goes}
use Rattle.model_core.specs.Run.History.{Moment, NotesAndNoted, leave, noting_before_event, completed, stepped, comes, next_move, start, look}
use Rattle.model_core.specs.Run.Same.{SameLooks}
use Rattle.run_laws.proofs.Simulation.{rests, fails, goes, Joined, one, two_fail, two_go, two_for_one}
use Rattle.run_laws.proofs.EdgesAlike.{with_vertices}
use Rattle.merge_rules.proofs.OneStepForTwo.TwoInOne.{Split, faults, goes_on}

-- what of the two models makes two steps into one
pub record Merging (g : EventGraph) (seed first second : ℕ) (rights : List Expression) (vertices : List EventVertex) (Inv : Configuration → Type 0) : Type 0 where
  pub kept : (c : Configuration) (n : EntryAndRest) (d : Configuration) → Inv c → next_entry c.pending ≡ Some n → n.entry.time ≤ 2 ^ 48 → occur g seed (vertex_at g n.entry.vertex) n c.state c.taken ≡ Ok d → Inv d
  pub elsewhere : (k : ℕ) → (k == first) ≡ false → slice_index_or vertices k no_vertex ≡ vertex_at g k
  pub split : (c : Configuration) (n : EntryAndRest) → Inv c → next_entry c.pending ≡ Some n → n.entry.time ≤ 2 ^ 48 → (n.entry.vertex == first) ≡ true → Split g seed second rights n.entry.time (occur g seed (vertex_at g n.entry.vertex) n c.state c.taken) (occur g seed (slice_index_or vertices n.entry.vertex no_vertex) n c.state c.taken)
  pub unwatched : (c : Configuration) → completed g second c ≡ []
  pub shown : (vertex : ℕ) (c : Configuration) (n : EntryAndRest) (d : Configuration) → (vertex == first) ≡ true → Inv c → each (value_of g c.state c.clock) rights ≡ Ok n.entry.values → next_entry c.pending ≡ Some n → n.entry.time ≡ c.clock → n.entry.time ≤ 2 ^ 48 → occur g seed (vertex_at g second) n c.state c.taken ≡ Ok d → completed g vertex c ≡ completed g vertex d
  pub silent : (vertex : ℕ) (c : Configuration) (n : EntryAndRest) (k : FaultKind) → (vertex == first) ≡ true → Inv c → each (value_of g c.state c.clock) rights ≡ Ok n.entry.values → next_entry c.pending ≡ Some n → n.entry.time ≡ c.clock → n.entry.time ≤ 2 ^ 48 → occur g seed (vertex_at g second) n c.state c.taken ≡ Err k → completed g vertex c ≡ []

on_time : (until t : ℕ) → nat_lt until t ≡ false → t ≤ until
on_time until t e = grind (arith, nat_tests)

not_below : (t u : ℕ) → t ≡ u → nat_lt t u ≡ false
not_below t u e = grind (arith, nat_tests)

module _ (g : EventGraph) (seed first second : ℕ) (rights : List Expression) (vertices : List EventVertex) (Inv : Configuration → Type 0) (ok : Merging g seed first second rights vertices Inv) (until : ℕ) (early : until ≤ 2 ^ 48) where
  abbrev h : EventGraph
  h = with_vertices g vertices

  abbrev Level : Moment → Moment → Type 0
  Level m k = (m ≡ k) × Inv m.now

  abbrev f : Moment → Move Moment
  f m = next_move g seed until m

  -- the second event is next, at the same clock
  second-next : (c : Configuration) (n : EntryAndRest) (noted : Option (List (List ℤ))) → next_entry c.pending ≡ Some n → n.entry.vertex ≡ second → n.entry.time ≡ c.clock → nat_lt until n.entry.time ≡ false → (r : OrFault Configuration) → occur g seed (vertex_at g second) n c.state c.taken ≡ r → f (record { now = c; noted = noted }) ≡ stepped g second (record { notes = []; noted = noted }) (faulted_at n.entry.time r)
  second-next c n noted next vertex time in_time r is =
      let m : Moment = record { now = c; noted = noted } in
      let left : NotesAndNoted = record { notes = []; noted = noted } in
      ap (comes g seed until m) next ∙
      (ap (λ b. cond b (Rests (leave g m).notes Stopped) (stepped g n.entry.vertex (noting_before_event g m n.entry.time) (step g seed c n))) in_time ∙
      (ap (λ b. stepped g n.entry.vertex (cond b (leave g m) left) (step g seed c n)) (not_below c.clock n.entry.time (sym time)) ∙
      (ap (λ v. stepped g v left (faulted_at n.entry.time (occur g seed (vertex_at g v) n c.state c.taken))) vertex ∙
      ap (λ (r : OrFault Configuration). stepped g second left (faulted_at n.entry.time r)) is)))

  split-joined : (vertex t : ℕ) → (vertex == first) ≡ true → nat_lt until t ≡ false → (left : NotesAndNoted) (x y : OrFault Configuration) → Split g seed second rights t x y → ((c : Configuration) → x ≡ Ok c → Inv c) → Joined f Level (stepped g vertex left (faulted_at t x)) (stepped h vertex left (faulted_at t y))
  split-joined vertex t is_first in_time left x y (faults k) inv = one (fails left.notes (Faulted t k))
  split-joined vertex t is_first in_time left x y (goes_on c n clock are next to_second time r then) inv = second-step r then where
    m1 : Moment
    m1 = record { now = c; noted = left.noted }

    goes-to : (r : OrFault Configuration) → occur g seed (vertex_at g second) n c.state c.taken ≡ r → f m1 ≡ stepped g second (record { notes = []; noted = left.noted }) (faulted_at t r)
    goes-to r then = second-next c n left.noted next to_second (time ∙ sym clock) (ap (nat_lt until) time ∙ in_time) r then ∙ ap (λ t. stepped g second (record { notes = []; noted = left.noted }) (faulted_at t r)) time

    carried : each (value_of g c.state c.clock) rights ≡ Ok n.entry.values
    carried = subst (λ t. each (value_of g c.state t) rights ≡ Ok n.entry.values) (sym clock) are

    due : n.entry.time ≤ 2 ^ 48
    due = subst (λ t. t ≤ 2 ^ 48) (sym time) (le_trans (on_time until t in_time) early)

    second-step : (r : OrFault Configuration) → occur g seed (vertex_at g second) n c.state c.taken ≡ r → Joined f Level (Goes (left.notes ++ completed g vertex c) m1) (stepped h vertex left (faulted_at t r))
    second-step (Err k) then =
        let all : (left.notes ++ completed g vertex c) ++ [] ≡ left.notes = append-nil (left.notes ++ completed g vertex c) ∙ (ap (λ more. left.notes ++ more) (ok.silent vertex c n k is_first (inv c refl) carried next (time ∙ sym clock) due then) ∙ append-nil left.notes) in
        subst (λ (notes : List Note). Joined f Level (Goes (left.notes ++ completed g vertex c) m1) (Fails notes (Faulted t k))) all
        (two_fail (left.notes ++ completed g vertex c) [] (Faulted t k) m1 (goes-to (Err k) then))
    second-step (Ok d) then =
        let m2 : Moment = record { now = d; noted = left.noted } in
        let all : (left.notes ++ completed g vertex c) ++ completed g second d ≡ left.notes ++ completed g vertex d = ap (λ more. (left.notes ++ completed g vertex c) ++ more) (ok.unwatched d) ∙ (append-nil (left.notes ++ completed g vertex c) ∙ ap (λ more. left.notes ++ more) (ok.shown vertex c n d is_first (inv c refl) carried next (time ∙ sym clock) due then)) in
        let inv2 : Inv d = ok.kept c n d (inv c refl) next due (subst (λ v. occur g seed (vertex_at g v) n c.state c.taken ≡ Ok d) (sym to_second) then) in
        subst (λ (notes : List Note). Joined f Level (Goes (left.notes ++ completed g vertex c) m1) (Goes notes m2)) all
        (two_go (left.notes ++ completed g vertex c) (completed g second d) m1 m2 m2 (goes-to (Ok d) then) (refl, inv2))

  -- another event: the same move
  same-joined : (vertex t : ℕ) (left : NotesAndNoted) (x : OrFault Configuration) → ((c : Configuration) → x ≡ Ok c → Inv c) → Joined f Level (stepped g vertex left (faulted_at t x)) (stepped h vertex left (faulted_at t x))
  same-joined vertex t left (Ok c) inv = one (goes (left.notes ++ completed g vertex c) (refl, inv c refl))
  same-joined vertex t left (Err k) inv = one (fails left.notes (Faulted t k))

  occurs-joined : (m : Moment) → Inv m.now → (n : EntryAndRest) → next_entry m.now.pending ≡ Some n → nat_lt until n.entry.time ≡ false → (b : Bool) → (n.entry.vertex == first) ≡ b → Joined f Level (stepped g n.entry.vertex (noting_before_event g m n.entry.time) (step g seed m.now n)) (stepped h n.entry.vertex (noting_before_event h m n.entry.time) (step h seed m.now n))
  occurs-joined m inv n next in_time b is =
      chosen b is where
        due : n.entry.time ≤ 2 ^ 48
        due = le_trans (on_time until n.entry.time in_time) early

        keeps : (c : Configuration) → occur g seed (vertex_at g n.entry.vertex) n m.now.state m.now.taken ≡ Ok c → Inv c
        keeps c done = ok.kept m.now n c inv next due done

        chosen : (b : Bool) → (n.entry.vertex == first) ≡ b → Joined f Level (stepped g n.entry.vertex (noting_before_event g m n.entry.time) (step g seed m.now n)) (stepped h n.entry.vertex (noting_before_event h m n.entry.time) (step h seed m.now n))
        chosen true is = split-joined n.entry.vertex n.entry.time is in_time (noting_before_event g m n.entry.time) _ _ (ok.split m.now n inv next due is) keeps
        chosen false is =
            subst (λ (v : EventVertex). Joined f Level (stepped g n.entry.vertex (noting_before_event g m n.entry.time) (step g seed m.now n)) (stepped h n.entry.vertex (noting_before_event h m n.entry.time) (faulted_at n.entry.time (occur g seed v n m.now.state m.now.taken)))) (sym (ok.elsewhere n.entry.vertex is))
            (same-joined n.entry.vertex n.entry.time (noting_before_event g m n.entry.time) (occur g seed (vertex_at g n.entry.vertex) n m.now.state m.now.taken) keeps)

  comes-joined : (m : Moment) → Inv m.now → (o : Option EntryAndRest) → next_entry m.now.pending ≡ o → Joined f Level (comes g seed until m o) (comes h seed until m o)
  comes-joined m inv None next = one (rests (leave g m).notes (Ended m.now.clock))
  comes-joined m inv (Some n) next = in_time (nat_lt until n.entry.time) refl where
    in_time : (b : Bool) → nat_lt until n.entry.time ≡ b → Joined f Level (cond b (Rests (leave g m).notes Stopped) (stepped g n.entry.vertex (noting_before_event g m n.entry.time) (step g seed m.now n))) (cond b (Rests (leave h m).notes Stopped) (stepped h n.entry.vertex (noting_before_event h m n.entry.time) (step h seed m.now n)))
    in_time true late = one (rests (leave g m).notes Stopped)
    in_time false early_enough = occurs-joined m inv n next early_enough (n.entry.vertex == first) refl

  level-joined : (m k : Moment) → Level m k → Joined f Level (f m) (next_move h seed until k)
  level-joined m k (same, inv) = subst (λ (k : Moment). Joined f Level (f m) (next_move h seed until k)) same (comes-joined m inv (next_entry m.now.pending) refl)

  pub merged-looks : (starts : List ℤ) → Inv (start g starts).now → SameLooks (λ n. look g seed starts until n) (λ n. look h seed starts until n)
  merged-looks starts inv = two_for_one f (next_move h seed until) Level level-joined (start g starts) (start h starts) (refl, inv)
