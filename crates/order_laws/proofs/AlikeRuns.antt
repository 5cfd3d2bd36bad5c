-- Runs from two moments that are alike show the same.
use Rattle.std.proofs.Common.{◌≡◌, ℕ, ℤ, Bool, true, false, cond, nat_lt, List, ◌∷◌, ◌++◌, Option, Some, None, refl, sym, ap₂, ◌∙◌, subst}
use Rattle.model_core.specs.EventGraph.{EventGraph}
use Rattle.model_core.specs.Run.Value.{OrFault}
use Rattle.model_core.specs.Run.Pending.{Entry, EntryAndRest, next_entry}
use Rattle.model_core.specs.Run.Step.{Configuration, vertex_at, faulted_at, step}
use Rattle.model_core.specs.Run.Machine.{Note, Ended, Stopped, Rests, Goes}
use Rattle.model_core.specs.Run.History.{Moment, NotesAndNoted, leave, noting_before_event, completed, stepped, comes, next_move, look_from}
use Rattle.model_core.proofs.Alongside.{Alongside, both_go, both_fail}
use Rattle.run_laws.proofs.Simulation.{Answers, rests, fails, goes, lock_step}
use Rattle.model_core.specs.Saved.GoingOn.{Alike}
use Rattle.order_laws.proofs.DueSorted.{sorted}
use Rattle.order_laws.proofs.InDueOrder.{sorted-front, sorted-none, due_order-sorted}
use Rattle.order_laws.proofs.AlikeSteps.{AlikeSorted, occur-alike}

-- moments that are alike
record AlikeMoments (m k : Moment) : Type 0 where
  now : AlikeSorted m.now k.now
  noted : m.noted ≡ k.noted

-- the next events are the same, and the others are the same once they are sorted
abbrev NextAlike : Option EntryAndRest → Option EntryAndRest → Type 0
NextAlike None None = Unit {0}
NextAlike None (Some k) = ⊥
NextAlike (Some n) None = ⊥
NextAlike (Some n) (Some k) = (n.entry ≡ k.entry) × (sorted n.others ≡ sorted k.others)

next-alike : (a b : List Entry) → sorted a ≡ sorted b → NextAlike (next_entry a) (next_entry b)
next-alike a b due = chosen (next_entry a) (next_entry b) refl refl where
  chosen : (o q : Option EntryAndRest) → next_entry a ≡ o → next_entry b ≡ q → NextAlike o q
  chosen None None e h = tt
  chosen None (Some k) e h = let no = sym (sorted-none a e) ∙ due ∙ sorted-front b k h in cc
  chosen (Some n) None e h = let no = sym (sorted-front a n e) ∙ due ∙ sorted-none b h in cc
  chosen (Some n) (Some k) e h =
      let same : n.entry ∷ sorted n.others ≡ k.entry ∷ sorted k.others = sym (sorted-front a n e) ∙ due ∙ sorted-front b k h in
      (cc, cc)

module _ (g : EventGraph) (seed until : ℕ) where
  completed-alike : (vertex : ℕ) (c d : Configuration) → AlikeSorted c d → completed g vertex c ≡ completed g vertex d
  completed-alike vertex c d alike = ap₂ (λ clock state. completed g vertex (record c { clock = clock; state = state })) alike.clock alike.state

  stepped-alike : (time vertex : ℕ) (left : NotesAndNoted) {a b : OrFault Configuration} → Alongside AlikeSorted a b → Answers AlikeMoments (stepped g vertex left (faulted_at time a)) (stepped g vertex left (faulted_at time b))
  stepped-alike time vertex left (both_go {s = c} {t = d} alike) =
      subst (λ (notes : List Note). Answers AlikeMoments (Goes (left.notes ++ completed g vertex c) (record { now = c; noted = left.noted })) (Goes (left.notes ++ notes) (record { now = d; noted = left.noted }))) (completed-alike vertex c d alike)
      (goes (left.notes ++ completed g vertex c) (record { now = alike; noted = refl }))
  stepped-alike time vertex left (both_fail k) = fails left.notes _

  module _ (c : Configuration) (b : List Entry) (noted : Option (List (List ℤ))) where
    abbrev first : Moment
    first = record { now = c; noted = noted }

    abbrev second : Moment
    second = record { now = record c { pending = b }; noted = noted }

    comes-so : (n : EntryAndRest) (others : List Entry) → sorted n.others ≡ sorted others → Answers AlikeMoments (comes g seed until first (Some n)) (comes g seed until second (Some (record n { others = others })))
    comes-so n others due = chosen (nat_lt until n.entry.time) where
      chosen : (late : Bool) → Answers AlikeMoments (cond late (Rests (leave g first).notes Stopped) (stepped g n.entry.vertex (noting_before_event g first n.entry.time) (step g seed c n))) (cond late (Rests (leave g second).notes Stopped) (stepped g n.entry.vertex (noting_before_event g second n.entry.time) (step g seed (record c { pending = b }) (record n { others = others }))))
      chosen true = rests (leave g first).notes Stopped
      chosen false = stepped-alike n.entry.time n.entry.vertex (noting_before_event g first n.entry.time) (occur-alike g seed (vertex_at g n.entry.vertex) n.entry n.others others c.state c.taken due)

    comes-alike : (o q : Option EntryAndRest) → NextAlike o q → Answers AlikeMoments (comes g seed until first o) (comes g seed until second q)
    comes-alike None None alike = rests (leave g first).notes (Ended c.clock)
    comes-alike None (Some k) alike = absurd alike
    comes-alike (Some n) None alike = absurd alike
    comes-alike (Some n) (Some k) (same, due) =
        subst (λ (e : Entry). Answers AlikeMoments (comes g seed until first (Some n)) (comes g seed until second (Some (record k { entry = e })))) same (comes-so n k.others due)

    move-alike : sorted c.pending ≡ sorted b → Answers AlikeMoments (next_move g seed until first) (next_move g seed until second)
    move-alike due = comes-alike (next_entry c.pending) (next_entry b) (next-alike c.pending b due)

  moves-alike : (m k : Moment) → AlikeMoments m k → Answers AlikeMoments (next_move g seed until m) (next_move g seed until k)
  moves-alike m k alike =
      let now = alike.now in
      let same : record { now = record m.now { pending = k.now.pending }; noted = m.noted } ≡ k =
      ap₂ (λ clock state. record { now = record { clock = clock; state = state; taken = m.now.taken; pending = k.now.pending }; noted = m.noted }) now.clock now.state
      ∙ ap₂ (λ taken noted. record { now = record k.now { taken = taken }; noted = noted }) now.taken alike.noted in
      subst (λ (k : Moment). Answers AlikeMoments (next_move g seed until m) (next_move g seed until k)) same (move-alike m.now k.now.pending m.noted now.due)

pub looks-alike : (g : EventGraph) (seed until n : ℕ) (noted : Option (List (List ℤ))) (c d : Configuration) → Alike c d → look_from g seed until n (record { now = c; noted = noted }) ≡ look_from g seed until n (record { now = d; noted = noted })
looks-alike g seed until n noted c d alike =
    lock_step (next_move g seed until) (next_move g seed until) AlikeMoments (moves-alike g seed until) n _ _ (record {
      now = record { clock = alike.clock; state = alike.state; taken = alike.taken; due = sym (due_order-sorted c.pending) ∙ alike.due ∙ due_order-sorted d.pending };
      noted = refl;
    })
