-- Two events that aren't in conflict, one after the other: each does what it does alone, beside what the other did.
use Rattle.std.proofs.Common.{◌≡◌, ℕ, List, Ok, Err, refl, sym, ◌∙◌, ap, ap₂}
use Rattle.std.specs.List.{AllByRecursion}
use Rattle.sig_base.specs.declared.fault.FaultKind.{FaultKind}
use Rattle.model_core.specs.EventGraph.{EventGraph}
use Rattle.model_core.specs.Run.Value.{OrFault}
use Rattle.model_core.specs.Run.Changes.{ChangeState}
use Rattle.model_core.specs.Run.Pending.{Entry}
use Rattle.model_core.specs.Run.Step.{vertex_at}
use Rattle.model_core.specs.Rules.Uses.{vertex_reads, vertex_writes, vertex_streams}
use Rattle.model_core.proofs.EachOne.{every-map, every-after}
use Rattle.model_core.proofs.Among.{Among, of-among}
use Rattle.run_laws.proofs.Spared.SetPlaces.{sets, Spares, sets-sets, ChangedWithin}
use Rattle.run_laws.proofs.Spared.InTurn.{result_by}
use Rattle.run_laws.proofs.Spared.SparedChanges.{set_beside}
use Rattle.conflict_report.proofs.ListEdits.{Outcome, outcome_of}
use Rattle.conflict_report.proofs.Events.{EventWritten, outcome_beside, event-spared, event-written}
use Rattle.conflict_report.proofs.NoConflict.{NoConflict, no-conflict-turned, spared-by, DeedsBy}

-- what is set where the others are spared may be set in either order
sets-crossed : {X : Type 0} (us : List (ℕ × X)) (places : List ℕ) (xs ys zs : List X) → AllByRecursion (Spares us) places → (w : ChangedWithin places ys zs) → sets w.pairs (sets us xs) ≡ sets us (sets w.pairs xs)
sets-crossed {X = X} us places xs ys zs spared w =
    sets-sets us w.pairs xs (every-map (λ (u : ℕ × X). Among u.0 places) (λ (u : ℕ × X). Spares us u.0) (λ u there. of-among (Spares us) places u.0 spared there) w.pairs w.among)

-- state and words after an event are those before it, set where it writes and draws
drawn-set : (g : EventGraph) (vertex : ℕ) (d : ChangeState) (o : Outcome) → (w : EventWritten (vertex_at g vertex) d o) → set_beside w.variables.pairs w.streams.pairs d ≡ o.drawn
drawn-set g vertex d o w = ap₂ (λ s taken. let r : ChangeState = record { state = s; taken = taken } in r) w.variables.result w.streams.result

module _ (g : EventGraph) (seed clk : ℕ) where
  -- the event of an entry, at this time
  abbrev pub event_of : Entry → ChangeState → OrFault Outcome
  event_of e d = outcome_of g seed clk (vertex_at g e.vertex) e.values d

  -- the two, alone and after each other
  pub data Crossed (a b : Entry) (d : ChangeState) : Type 0 where
    first_faults : (k : FaultKind) → event_of a d ≡ Err k → ((o : Outcome) → event_of b d ≡ Ok o → event_of a o.drawn ≡ Err k) → Crossed a b d
    second_faults : (k : FaultKind) → event_of b d ≡ Err k → ((o : Outcome) → event_of a d ≡ Ok o → event_of b o.drawn ≡ Err k) → Crossed a b d
    neither_faults : (o p after_b after_a : Outcome) → event_of a d ≡ Ok o → event_of b d ≡ Ok p → event_of a p.drawn ≡ Ok after_b → event_of b o.drawn ≡ Ok after_a → after_b.drawn ≡ after_a.drawn → after_b.deeds ≡ o.deeds → after_a.deeds ≡ p.deeds → DeedsBy g a.vertex o.deeds → DeedsBy g b.vertex p.deeds → Crossed a b d

  -- what the second does after the first
  after-other : (a b : Entry) → NoConflict g a.vertex b.vertex → (d : ChangeState) (o : Outcome) → (w : EventWritten (vertex_at g a.vertex) d o) → event_of b o.drawn ≡ result_by (outcome_beside w.variables.pairs w.streams.pairs) (event_of b d)
  after-other a b n d o w =
      ap (event_of b) (sym (drawn-set g a.vertex d o w)) ∙ event-spared w.variables.pairs w.streams.pairs (vertex_at g b.vertex) (spared-by g a.vertex b.vertex n d o w) g seed clk b.values d

  fails-after : (a b : Entry) → NoConflict g a.vertex b.vertex → (d : ChangeState) (k : FaultKind) → event_of b d ≡ Err k → (o : Outcome) → event_of a d ≡ Ok o → event_of b o.drawn ≡ Err k
  fails-after a b n d k fails o goes =
      let w = event-written g seed clk (vertex_at g a.vertex) a.values d o goes in
      after-other a b n d o w ∙ ap (result_by (outcome_beside w.variables.pairs w.streams.pairs)) fails

  -- both orders leave the same state and words
  drawn-crossed : (a b : Entry) → NoConflict g a.vertex b.vertex → (d : ChangeState) (o p : Outcome) → (w : EventWritten (vertex_at g a.vertex) d o) (u : EventWritten (vertex_at g b.vertex) d p) → set_beside u.variables.pairs u.streams.pairs o.drawn ≡ set_beside w.variables.pairs w.streams.pairs p.drawn
  drawn-crossed a b n d o p w u =
      let v = vertex_at g b.vertex in
      let spared = spared-by g a.vertex b.vertex n d o w in
      ap (set_beside u.variables.pairs u.streams.pairs) (sym (drawn-set g a.vertex d o w)) ∙
      (ap₂ (λ s taken. let r : ChangeState = record { state = s; taken = taken } in r)
      (sets-crossed w.variables.pairs (vertex_writes v) d.state d.state p.drawn.state (every-after (Spares w.variables.pairs) (vertex_reads v) (vertex_writes v) spared.variables) u.variables)
      (sets-crossed w.streams.pairs (vertex_streams v) d.taken d.taken p.drawn.taken spared.streams u.streams) ∙
      ap (set_beside w.variables.pairs w.streams.pairs) (drawn-set g b.vertex d p u))

  pub crossed : (a b : Entry) → NoConflict g a.vertex b.vertex → (d : ChangeState) → Crossed a b d
  crossed a b n d = by (event_of a d) refl (event_of b d) refl where
    turned : NoConflict g b.vertex a.vertex
    turned = no-conflict-turned g a.vertex b.vertex n

    by : (r : OrFault Outcome) → event_of a d ≡ r → (q : OrFault Outcome) → event_of b d ≡ q → Crossed a b d
    by (Err k) fails q is = first_faults k fails (λ o goes. fails-after b a turned d k fails o goes)
    by (Ok o) goes (Err k) fails = second_faults k fails (λ o goes. fails-after a b n d k fails o goes)
    by (Ok o) goes (Ok p) goes_too =
        let w = event-written g seed clk (vertex_at g a.vertex) a.values d o goes in
        let u = event-written g seed clk (vertex_at g b.vertex) b.values d p goes_too in
        neither_faults o p (outcome_beside u.variables.pairs u.streams.pairs o) (outcome_beside w.variables.pairs w.streams.pairs p) goes goes_too
        (after-other b a turned d p u ∙ ap (result_by (outcome_beside u.variables.pairs u.streams.pairs)) goes)
        (after-other a b n d o w ∙ ap (result_by (outcome_beside w.variables.pairs w.streams.pairs)) goes_too)
        (drawn-crossed a b n d o p w u) refl refl w.deeds u.deeds
