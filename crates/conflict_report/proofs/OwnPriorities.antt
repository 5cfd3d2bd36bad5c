-- Each event that is pending in a run has a priority of its vertex: one with which an edge schedules it, or that of the event with
-- which the run begins.
use Rattle.std.proofs.Common.{◌≡◌, ℕ, zero, suc, ℤ, true, cond, List, [], ◌∷◌, Some, Ok, inl, inr, refl, sym, ap, ap₂, subst, slice_index_or}
use Rattle.std.specs.List.{AllByRecursion, flat_map}
use Rattle.model_core.specs.EventGraph.{EventGraph, EventVertex, EventEdge, EdgeKind, Schedule, Urgent, CancelNext, CancelEqual, CancelAll}
use Rattle.model_core.specs.Run.State.{State}
use Rattle.model_core.specs.Run.Pending.{Entry, EntryAndRest, next_entry}
use Rattle.model_core.specs.Run.Step.{Configuration, no_vertex, vertex_at, step}
use Rattle.model_core.specs.Run.Machine.{Note, Goes, Reached}
use Rattle.model_core.specs.Run.History.{Moment, next_move, start, reached_from}
use Rattle.model_core.specs.Conflicts.Priorities.{kind_priorities, edge_priorities, vertex_priorities, begin_priorities, priorities_of}
use Rattle.model_core.specs.Conflicts.Orders.{HasOwnPriority}
use Rattle.model_core.proofs.Among.{Among, among-front, among-back, among-flat_map, each-among}
use Rattle.model_core.proofs.PlacesChanged.{same_number}
use Rattle.run_laws.proofs.GoingMoves.{move-by, reached-keeps}
use Rattle.run_laws.proofs.Keeping.{faulted-ok}
use Rattle.run_laws.proofs.MadeEntries.{SchedulesOnly, occur-every}
use Rattle.run_laws.proofs.MappedPending.{next_among-every}
use Rattle.run_laws.proofs.OnTime.{always}
use Rattle.mark_laws.proofs.EntailedMarks.{place-among}

-- what holds of each element, and of the one given for none, holds at each place
at_place : {A : Type 0} (P : A → Type 0) (xs : List A) (d : A) (k : ℕ) → ((x : A) → Among x xs → P x) → P d → P (slice_index_or xs k d)
at_place P [] d k each none = none
at_place P (x ∷ xs) d zero each none = each x (inl refl)
at_place P (x ∷ xs) d (suc k) each none = at_place P xs d k (λ y there. each y (inr there)) none

-- each pending event has a priority of its vertex
abbrev pub HaveOwnPriorities : EventGraph → List Entry → Type 0
HaveOwnPriorities g pending = AllByRecursion (HasOwnPriority g) pending

module _ (g : EventGraph) where
  -- the priority with which an edge of a vertex schedules
  edge_own : (v : EventVertex) → Among v g.vertices → (e : EventEdge) → Among e v.edges → (priority : ℕ) → kind_priorities e.kind ≡ priority ∷ [] → Among priority (priorities_of g e.target)
  edge_own v there e of_v priority is =
      let own : edge_priorities e.target e ≡ priority ∷ [] = ap₂ (λ b (ks : List ℕ). cond b ks []) (same_number e.target e.target refl) is in
      among-back (begin_priorities e.target) (flat_map (vertex_priorities e.target) g.vertices) priority
      (among-flat_map (vertex_priorities e.target) g.vertices v priority there
      (among-flat_map (edge_priorities e.target) v.edges e priority of_v (subst (Among priority) (sym own) (inl refl))))

  module _ (seed : ℕ) where
    schedules_own : (v : EventVertex) → Among v g.vertices → (s : State) (clk : ℕ) (e : EventEdge) → Among e v.edges → (kind : EdgeKind) → e.kind ≡ kind → SchedulesOnly (HasOwnPriority g) g seed s clk e kind
    schedules_own v there s clk e of_v (Schedule delay priority) is = λ taken wait values at_delay at_values. place-among (priorities_of g e.target) priority (edge_own v there e of_v priority (ap kind_priorities is))
    schedules_own v there s clk e of_v Urgent is = λ values at_values. place-among (priorities_of g e.target) 0 (edge_own v there e of_v 0 (ap kind_priorities is))
    schedules_own v there s clk e of_v CancelNext is = tt
    schedules_own v there s clk e of_v CancelEqual is = tt
    schedules_own v there s clk e of_v CancelAll is = tt

    edges_own : (k : ℕ) (s : State) (clk : ℕ) → AllByRecursion (λ e. SchedulesOnly (HasOwnPriority g) g seed s clk e e.kind) (vertex_at g k).edges
    edges_own k s clk =
        at_place (λ v. AllByRecursion (λ e. SchedulesOnly (HasOwnPriority g) g seed s clk e e.kind) v.edges) g.vertices no_vertex k
        (λ v there. each-among (λ e. SchedulesOnly (HasOwnPriority g) g seed s clk e e.kind) v.edges (λ e of_v. schedules_own v there s clk e of_v e.kind refl)) tt

    step_own : (c d : Configuration) (n : EntryAndRest) → next_entry c.pending ≡ Some n → HaveOwnPriorities g c.pending → step g seed c n ≡ Ok d → HaveOwnPriorities g d.pending
    step_own c d n due all done =
        (occur-every (HasOwnPriority g) g seed (λ s. Unit {0}) (always g) (vertex_at g n.entry.vertex) n c.state c.taken d tt (λ t q. edges_own n.entry.vertex t n.entry.time)
        (next_among-every (HasOwnPriority g) (λ e. true) c.pending all n due).1 (faulted-ok n.entry.time _ d done)).1

    -- ---- along a run

    module _ (until : ℕ) where
      pub move_own : (m later : Moment) (notes : List Note) → HaveOwnPriorities g m.now.pending → next_move g seed until m ≡ Goes notes later → HaveOwnPriorities g later.now.pending
      move_own m later notes all e = let (n, by) = move-by g seed until m notes later e in step_own m.now later.now n by.due all by.steps

      pub reached_own : (n : ℕ) (m : Moment) (r : Reached Moment) → HaveOwnPriorities g m.now.pending → reached_from g seed until n m ≡ Some r → HaveOwnPriorities g r.moment.now.pending
      reached_own n m r all there = reached-keeps (next_move g seed until) (λ k m. HaveOwnPriorities g m.now.pending) (λ k m later notes own goes. move_own m later notes own goes) n 0 m r all there

  -- a run begins so
  pub start_own : (starts : List ℤ) → HaveOwnPriorities g (start g starts).now.pending
  start_own starts = (place-among (priorities_of g 0) 5 (among-front (begin_priorities 0) (flat_map (vertex_priorities 0) g.vertices) 5 (inl refl)), tt)
