-- A run of one step at most exceeds its room where its first event does.
use Rattle.std.proofs.Common.{◌≡◌, ℕ, zero, suc, ◌+◌, ◌<◌, ◌≤◌, length, sym, ◌∙◌, ap, subst, arith}
use Rattle.std.specs.Prelude.{Some}
use Rattle.std.proofs.lemmas.Option.{same_Some}
use Rattle.model_core.specs.EventGraph.{EventGraph}
use Rattle.model_core.specs.Run.Pending.{EntryAndRest, next_entry}
use Rattle.model_core.specs.Run.Step.{vertex_at}
use Rattle.model_core.specs.Run.Machine.{Reached}
use Rattle.model_core.specs.Run.History.{Moment, reached_from}
use Rattle.run_control.specs.Room.{scheduled_by}
use Rattle.job_answers.specs.RunAnswer.{ExceedsRoomFrom}

same_moment : (notes : _) (m : Moment) (r : Reached Moment) → Some (record { notes = notes; moment = m }) ≡ Some r → m ≡ r.moment
same_moment notes m r e = cc

-- the next event of a run that exceeds its room within one step
pub first_exceeds : (g : EventGraph) (until seed events : ℕ) (m : Moment) (room : ℕ) (n : EntryAndRest) → events ≤ 1 → next_entry m.now.pending ≡ Some n → ExceedsRoomFrom g until seed events m room
    → (0 < events) × (n.entry.time ≤ until) × (room < scheduled_by (vertex_at g n.entry.vertex).edges + length m.now.pending)
first_exceeds g until seed events m room n few is h = by h.steps h.within h.lead
  where
    by : (steps : ℕ) → steps < events → reached_from g seed until steps m ≡ Some h.here → (0 < events) × (n.entry.time ≤ until) × (room < scheduled_by (vertex_at g n.entry.vertex).edges + length m.now.pending)
    by (suc k) within lead = absurd (omega (arith, few, within))
    by zero within lead =
        let here : m ≡ h.here.moment = same_moment _ m h.here lead in
        let next : n ≡ h.next = same_Some n h.next (sym is ∙ (ap (λ (x : Moment). next_entry x.now.pending) here ∙ h.comes)) in (
          within,
          subst (λ (k : EntryAndRest). k.entry.time ≤ until) (sym next) h.due,
          subst (λ (k : EntryAndRest). room < scheduled_by (vertex_at g k.entry.vertex).edges + length m.now.pending) (sym next)
              (subst (λ (x : Moment). room < scheduled_by (vertex_at g h.next.entry.vertex).edges + length x.now.pending) (sym here) h.exceeds),
        )
