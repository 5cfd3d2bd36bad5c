-- Two events performed in turn: where the first one goes on, the second is still pending, and occurs beside the others.
use Rattle.std.proofs.Common.{◌≡◌, ℕ, ◌==◌, false, List, Option, Some, option_map, slice_get, Result, Ok, Err, refl, sym, ◌∙◌, ap, subst}
use Rattle.std.specs.List.{remove}
use Rattle.std.specs.Option.{option_and_then}
use Rattle.sig_base.specs.declared.fault.FaultKind.{FaultKind}
use Rattle.model_core.specs.EventGraph.{EventGraph}
use Rattle.model_core.specs.Run.Value.{OrFault}
use Rattle.model_core.specs.Run.Changes.{ChangeState}
use Rattle.model_core.specs.Run.Pending.{Entry}
use Rattle.model_core.specs.Run.Step.{Configuration, Fault, vertex_at, faulted_at, step}
use Rattle.model_core.specs.Rules.MarkedPlaces.{place_without}
use Rattle.model_core.specs.Conflicts.Perform.{perform, place_after_first, after_second_event, after_both_events}
use Rattle.model_core.specs.Conflicts.Orders.{StaysPending}
use Rattle.model_core.proofs.PlacesChanged.{same_number, apart-turned}
use Rattle.run_laws.proofs.Spared.InTurn.{result_by}
use Rattle.model_core.proofs.PlacesTakenOff.{get-without, remove-turned}
use Rattle.conflict_report.proofs.ListEdits.{ListEdit, after_edits, Outcome, configuration_after, occur-event}
use Rattle.conflict_report.proofs.Events.{event-written}
use Rattle.conflict_report.proofs.PutIn.{PendingAt, pending-again}
use Rattle.conflict_report.proofs.NoConflict.{NoConflict, deeds-cut-others, DeedsBy}
use Rattle.conflict_report.proofs.CrossedEvents.{event_of}

-- two events that are pending at two places and due at this time
pub record TwoPending (t : ℕ) (c : Configuration) (i j : ℕ) (a b : Entry) : Type 0 where
  pub first_there : slice_get c.pending i ≡ Some a
  pub second_there : slice_get c.pending j ≡ Some b
  pub apart : (i == j) ≡ false
  pub first_due : a.time ≡ t
  pub second_due : b.time ≡ t

pub two-turned : (t : ℕ) (c : Configuration) (i j : ℕ) (a b : Entry) → TwoPending t c i j a b → TwoPending t c j i b a
two-turned t c i j a b p = record {
  first_there = p.second_there;
  second_there = p.first_there;
  apart = apart-turned i j p.apart;
  first_due = p.second_due;
  second_due = p.first_due;
}

-- state and words of a configuration
abbrev pub drawn_in : Configuration → ChangeState
drawn_in c = record { state = c.state; taken = c.taken }

-- a pending list without the entries at two places
abbrev pub without_both : List Entry → ℕ → ℕ → List Entry
without_both pending i j = remove (remove pending i) (place_without i j)

module _ (g : EventGraph) (seed t : ℕ) where
  -- the step of an event whose outcome is known
  abbrev step_result : List Entry → OrFault Outcome → Result Configuration Fault
  step_result others r = faulted_at t (result_by (configuration_after t others) r)

  performed-is : (c : Configuration) (place : ℕ) (e : Entry) → slice_get c.pending place ≡ Some e → e.time ≡ t → perform g seed c place ≡ Some (step_result (remove c.pending place) (event_of g seed t e (drawn_in c)))
  performed-is c place e there due =
      ap (λ (o : Option Entry). option_map (step g seed c) (option_map (λ e. record { entry = e; others = remove c.pending place }) o)) there ∙
      (ap (λ (r : OrFault Configuration). Some (faulted_at e.time r)) (occur-event g seed (vertex_at g e.vertex) (record { entry = e; others = remove c.pending place }) (drawn_in c)) ∙
      ap (λ (u : ℕ). Some (faulted_at u (result_by (configuration_after u (remove c.pending place)) (event_of g seed u e (drawn_in c))))) due)

  module _ (c : Configuration) (i j : ℕ) (a b : Entry) (two : TwoPending t c i j a b) where
    both-is : after_both_events g seed c i j ≡ after_second_event g seed c.pending i j b (step_result (remove c.pending i) (event_of g seed t a (drawn_in c)))
    both-is =
        ap (option_and_then (λ e. option_and_then (after_second_event g seed c.pending i j e) (perform g seed c i))) two.second_there ∙
        ap (option_and_then (after_second_event g seed c.pending i j b)) (performed-is c i a two.first_there two.first_due)

    -- the first one faults
    pub first-faults : (k : FaultKind) → event_of g seed t a (drawn_in c) ≡ Err k → after_both_events g seed c i j ≡ Some (Err (record { time = t; kind = k }))
    first-faults k fails = both-is ∙ ap (λ (r : OrFault Outcome). after_second_event g seed c.pending i j b (step_result (remove c.pending i) r)) fails

    module _ (n : NoConflict g a.vertex b.vertex) where
      -- the second event is still pending once the first one has occurred
      still-pending : (deeds : List ListEdit) → DeedsBy g a.vertex deeds → PendingAt b b.vertex (after_edits deeds (without_both c.pending i j)) (after_edits deeds (remove c.pending i)) (place_after_first c.pending i j b.vertex (after_edits deeds (remove c.pending i)))
      still-pending deeds on = pending-again b b.vertex (same_number b.vertex b.vertex refl) deeds (deeds-cut-others g a.vertex b.vertex n deeds on) (remove c.pending i) (place_without i j) (get-without c.pending i j two.apart ∙ two.second_there)

      -- the first one goes on to the second
      first-goes : (o : Outcome) → event_of g seed t a (drawn_in c) ≡ Ok o → after_both_events g seed c i j ≡ Some (step_result (after_edits o.deeds (without_both c.pending i j)) (event_of g seed t b o.drawn))
      first-goes o goes =
          let found = still-pending o.deeds (event-written g seed t (vertex_at g a.vertex) a.values (drawn_in c) o goes).deeds in
          let d = configuration_after t (remove c.pending i) o in
          both-is ∙
          (ap (λ (r : OrFault Outcome). after_second_event g seed c.pending i j b (step_result (remove c.pending i) r)) goes ∙
          (performed-is d (place_after_first c.pending i j b.vertex d.pending) b found.there two.second_due ∙
          ap (λ (es : List Entry). Some (step_result es (event_of g seed t b o.drawn))) found.others))

      -- the second one faults by itself and after the first
      pub second-faults : (k : FaultKind) → event_of g seed t b (drawn_in c) ≡ Err k → ((o : Outcome) → event_of g seed t a (drawn_in c) ≡ Ok o → event_of g seed t b o.drawn ≡ Err k) → (f : Fault) × (after_both_events g seed c i j ≡ Some (Err f))
      second-faults k fails later = by (event_of g seed t a (drawn_in c)) refl where
        by : (r : OrFault Outcome) → event_of g seed t a (drawn_in c) ≡ r → (f : Fault) × (after_both_events g seed c i j ≡ Some (Err f))
        by (Err l) is = (record { time = t; kind = l }, first-faults l is)
        by (Ok o) is = (record { time = t; kind = k }, first-goes o is ∙ ap (λ (r : OrFault Outcome). Some (step_result (after_edits o.deeds (without_both c.pending i j)) r)) (later o is))

      -- both go on
      pub both-give : (o later : Outcome) → event_of g seed t a (drawn_in c) ≡ Ok o → event_of g seed t b o.drawn ≡ Ok later → after_both_events g seed c i j ≡ Some (Ok (configuration_after t (after_edits o.deeds (without_both c.pending i j)) later))
      both-give o later goes goes_then = first-goes o goes ∙ ap (λ (r : OrFault Outcome). Some (step_result (after_edits o.deeds (without_both c.pending i j)) r)) goes_then

      -- where it goes on to d, the second event is still pending, and doesn't matter to it
      pub stays-pending : (d : Configuration) → perform g seed c i ≡ Some (Ok d) → StaysPending g seed c i j b d
      stays-pending d goes = by (event_of g seed t a (drawn_in c)) refl where
        known : (r : OrFault Outcome) → event_of g seed t a (drawn_in c) ≡ r → ◌≡◌ {A = Option (Result Configuration Fault)} (Some (step_result (remove c.pending i) r)) (Some (Ok d))
        known r is = sym (performed-is c i a two.first_there two.first_due ∙ ap (λ (r : OrFault Outcome). Some (step_result (remove c.pending i) r)) is) ∙ goes

        standing-so : (o : Outcome) → event_of g seed t a (drawn_in c) ≡ Ok o → StaysPending g seed c i j b (configuration_after t (remove c.pending i) o)
        standing-so o is =
            let found = still-pending o.deeds (event-written g seed t (vertex_at g a.vertex) a.values (drawn_in c) o is).deeds in
            let alone = record c { pending = remove c.pending j } in
            record {
              there = found.there;
              unseen = performed-is alone (place_without j i) a (get-without c.pending j i (apart-turned i j two.apart) ∙ two.first_there) two.first_due ∙
                  (ap (λ (r : OrFault Outcome). Some (step_result (without_both c.pending j i) r)) is ∙
                  ap (λ (es : List Entry). let r : Option (Result Configuration Fault) = Some (Ok (record { clock = t; state = o.drawn.state; taken = o.drawn.taken; pending = es })) in r) (ap (after_edits o.deeds) (sym (remove-turned c.pending i j two.apart)) ∙ sym found.others));
            }

        by : (r : OrFault Outcome) → event_of g seed t a (drawn_in c) ≡ r → StaysPending g seed c i j b d
        by (Err k) is = let no = known (Err k) is in cc
        by (Ok o) is =
            let same = known (Ok o) is in
            let same_after : configuration_after t (remove c.pending i) o ≡ d = cc in
            subst (StaysPending g seed c i j b) same_after (standing-so o is)
