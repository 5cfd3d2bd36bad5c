-- Two simultaneous events that aren't in conflict commute.
use Rattle.std.proofs.Common.{◌≡◌, ℕ, false, List, Some, Ok, Err, refl, sym, ◌∙◌, ap}
use Rattle.std.proofs.lemmas.Bool.{ne_eqb}
use Rattle.model_core.specs.EventGraph.{EventGraph}
use Rattle.model_core.specs.Run.Changes.{ChangeState}
use Rattle.model_core.specs.Run.Pending.{Entry}
use Rattle.model_core.specs.Run.Step.{Configuration, Fault}
use Rattle.model_core.specs.Conflicts.Conflict.{in_conflict}
use Rattle.model_core.specs.Conflicts.Perform.{perform, after_both_events}
use Rattle.model_core.specs.Conflicts.Orders.{Simultaneous, StaysPending, Commute, both_fault, both_give, times_pending}
use Rattle.model_core.proofs.PlacesTakenOff.{remove-turned}
use Rattle.conflict_report.proofs.ListEdits.{ListEdit, after_edits}
use Rattle.conflict_report.proofs.EitherOrder.{either-order}
use Rattle.conflict_report.proofs.NoConflict.{NoConflict, not-in-conflict, no-conflict-turned, deeds-aside, DeedsBy}
use Rattle.conflict_report.proofs.CrossedEvents.{Crossed, first_faults, second_faults, neither_faults, crossed}
use Rattle.conflict_report.proofs.PerformedInTurn.{TwoPending, two-turned, drawn_in, without_both, first-faults, second-faults, both-give, stays-pending}

module _ (g : EventGraph) (seed t : ℕ) where
  -- the pending lists that both orders leave
  left-alike : (c : Configuration) (i j : ℕ) (a b : Entry) → TwoPending t c i j a b → NoConflict g a.vertex b.vertex → (ds es : List ListEdit) → DeedsBy g a.vertex ds → DeedsBy g b.vertex es → (x : Entry) → times_pending x (after_edits es (after_edits ds (without_both c.pending i j))) ≡ times_pending x (after_edits ds (after_edits es (without_both c.pending j i)))
  left-alike c i j a b two n ds es on_a on_b x =
      either-order x ds es (deeds-aside g a.vertex b.vertex n ds es on_a on_b x) (without_both c.pending i j) ∙
      ap (λ (pending : List Entry). times_pending x (after_edits ds (after_edits es pending))) (remove-turned c.pending i j two.apart)

  commute : (c : Configuration) (i j : ℕ) (a b : Entry) → TwoPending t c i j a b → NoConflict g a.vertex b.vertex → Commute (after_both_events g seed c i j) (after_both_events g seed c j i)
  commute c i j a b two n = by (crossed g seed t a b n (drawn_in c)) where
    turned : TwoPending t c j i b a
    turned = two-turned t c i j a b two

    n_turned : NoConflict g b.vertex a.vertex
    n_turned = no-conflict-turned g a.vertex b.vertex n

    fault : (f h : Fault) → after_both_events g seed c i j ≡ Some (Err f) → after_both_events g seed c j i ≡ Some (Err h) → Commute (after_both_events g seed c i j) (after_both_events g seed c j i)
    fault f h one other = rw (one, other) (both_fault f h)

    by : Crossed g seed t a b (drawn_in c) → Commute (after_both_events g seed c i j) (after_both_events g seed c j i)
    by (first_faults k fails later) =
        let (h, other) = second-faults g seed t c j i b a turned n_turned k fails later in
        fault (record { time = t; kind = k }) h (first-faults g seed t c i j a b two k fails) other
    by (second_faults k fails later) =
        let (f, one) = second-faults g seed t c i j a b two n k fails later in
        fault f (record { time = t; kind = k }) one (first-faults g seed t c j i b a turned k fails)
    by (neither_faults o p after_b after_a goes goes_too goes_later goes_then same_drawn same_first same_second on_a on_b) =
        rw (both-give g seed t c i j a b two n o after_a goes goes_then, both-give g seed t c j i b a turned n_turned p after_b goes_too goes_later) (both_give (record {
          clocks = refl;
          states = ap (λ (d : ChangeState). d.state) (sym same_drawn);
          words = ap (λ (d : ChangeState). d.taken) (sym same_drawn);
          held = λ x. ap (λ (ds : List ListEdit). times_pending x (after_edits ds (after_edits o.deeds (without_both c.pending i j)))) same_second ∙
              (left-alike c i j a b two n o.deeds p.deeds on_a on_b x ∙
              sym (ap (λ (ds : List ListEdit). times_pending x (after_edits ds (after_edits p.deeds (without_both c.pending j i)))) same_first));
        }))

-- ---- the law

module _ (g : EventGraph) (seed : ℕ) (c : Configuration) (first second : ℕ) (a b : Entry) (s : Simultaneous g c.pending first second a b) (none : in_conflict g a.vertex b.vertex ≡ false) where
  two : TwoPending a.time c first second a b
  two = record { first_there = s.first_there; second_there = s.second_there; apart = ne_eqb first second s.apart; first_due = refl; second_due = sym s.times }

  no-conflict : NoConflict g a.vertex b.vertex
  no-conflict = not-in-conflict g a b s.priorities s.first_own s.second_own none

  pub events-commute : Commute (after_both_events g seed c first second) (after_both_events g seed c second first)
  events-commute = commute g seed a.time c first second a b two no-conflict

  pub second-stays : (d : Configuration) → perform g seed c first ≡ Some (Ok d) → StaysPending g seed c first second b d
  second-stays d goes = stays-pending g seed a.time c first second a b two no-conflict d goes
