-- The items of a run that was followed from its beginning are its tally.
use Rattle.std.proofs.Common.{◌≡◌, ℕ, suc, ◌+◌, ◌*◌, ◌^◌, ◌<◌, ◌≤◌, max, Bool, true, false, cond, List, [], ◌∷◌, ◌++◌, subst, length, refl, sym, ap, ap₂, ◌∙◌, append-nil, arith}
use Rattle.std.specs.Prelude.{ℤ, Option, None, All, slice_index_or, ◌==◌}
use Rattle.std.proofs.lemmas.List.Elements.{All-map}
use Rattle.sig_base.specs.declared.limits.TheConstants.{STOP_MAX, EVENTS_MAX}
use Rattle.model_core.specs.EventGraph.{EventGraph}
use Rattle.model_core.specs.declared.model.Model.{Model}
use Rattle.model_core.specs.Run.Step.{Configuration}
use Rattle.model_core.specs.Run.History.{Moment, start, look, look_from}
use Rattle.model_core.specs.Code.Views.{graph_of}
use Rattle.run_laws.proofs.OnTime.{starts-on_time}
use Rattle.run_control.specs.Beginning.{BegunRun}
use Rattle.run_control.specs.Running.{Running}
use Rattle.watch_trace.specs.Tracing.{Tracing, moment_of}
use Rattle.model_core.specs.Run.Machine.{Note, At, On, RunStatus, Ended, Stopped, Faulted, Going, Look}
use Rattle.watch_trace.specs.declared.outcome.Outcome.{Outcome}
use Rattle.watch_trace.specs.declared.outcome.Outcome.TheVariants as outcomes
use Rattle.watch_trace.specs.Following.{outcome_of, run_look, Completes}
use Rattle.tally_report.specs.Tallying.{ItemOf, CellAt, VertexAt, items_reported, item_of_notes, occurrences, run_end, end_time, last_time, tally_of}
use Rattle.tally_report.specs.declared.item.Item.{Item}
use Rattle.tally_report.specs.declared.item.Item.TheVariants as items
use Rattle.tally_report.specs.SmallAreas.{IsOfRuns}
use Rattle.tally_report.specs.Inner.Sums.{IsSmall}
use Rattle.tally_report.specs.declared.run_tally.RunEnd.{RunEnd}
use Rattle.tally_report.specs.Inner.RunEnds.{end_reached, time_reached}
use Rattle.tally_report.specs.Inner.Sums.{Tallied, after_notes, tally_of_sums}
use Rattle.tally_report.proofs.AreaBounds.{area-longer}
use Rattle.tally_report.proofs.RisingNotes.{fine_look, FineLook, RisesTo, EndsBy, note_by}
use Rattle.tally_report.proofs.ItemsOfSums.{first_tallied, items-come, latest-after_notes, since-after_notes, latest_at, latest_at-by}

end-is : (end : RunStatus) → end_reached (outcome_of end) ≡ run_end end
end-is (Ended time) = refl
end-is Stopped = refl
end-is (Faulted time kind) = refl
end-is Going = refl

time-is : (until : ℕ) (notes : List Note) (end : RunStatus) → time_reached (outcome_of end) until (last_time 0 notes) ≡ end_time until notes end
time-is until notes (Ended time) = refl
time-is until notes Stopped = refl
time-is until notes (Faulted time kind) = refl
time-is until notes Going = refl

-- a run ends by its stop time
ends-by : (until : ℕ) (notes : List Note) (end : RunStatus) → RisesTo 0 notes until → EndsBy until end → end_time until notes end ≤ until
ends-by until notes (Ended time) rises by = by
ends-by until notes Stopped rises by = omega arith
ends-by until notes (Faulted time kind) rises by = by
ends-by until notes Going rises by = note_by 0 until notes rises

pub completed-so : (seen : Look) (outcome : Outcome) (rest : List Note) → (outcome ≡ outcomes.WriteFault → ⊥) → (outcome ≡ outcomes.NoMemory → ⊥) → Completes seen rest outcome
    → (outcome ≡ outcome_of seen.standing) × (rest ≡ [])
completed-so seen (outcomes.Ended time) rest well roomy p = p
completed-so seen outcomes.Stopped rest well roomy p = p
completed-so seen (outcomes.Faulted time kind) rest well roomy p = p
completed-so seen outcomes.Budget rest well roomy p = p
completed-so seen outcomes.WriteFault rest well roomy p = absurd (well refl)
completed-so seen outcomes.NoMemory rest well roomy p = absurd (roomy refl)

-- no more events occur than there are notes
abbrev pub FewCounted : Item → Type 0
FewCounted (items.Cell span area) = Unit
FewCounted (items.Count n) = n ≤ 2 ^ 42

occurrences-few : (place : ℕ) (notes : List Note) → occurrences place notes ≤ length notes
occurrences-few place [] = omega arith
occurrences-few place (At time values ∷ notes) = let few = occurrences-few place notes in omega (arith, few)
occurrences-few place (On time at values ∷ notes) = one (place == at) (occurrences place notes) (length notes) (occurrences-few place notes)
  where
    one : (b : Bool) (m n : ℕ) → m ≤ n → cond b 1 0 + m ≤ suc n
    one true m n few = omega (arith, few)
    one false m n few = omega (arith, few)

few-occurrences : (g : EventGraph) (notes : List Note) (end : ℕ) (item : ItemOf) → length notes ≤ 2 ^ 42 → FewCounted (item_of_notes g notes end item)
few-occurrences g notes end (CellAt place index) few = tt
few-occurrences g notes end (VertexAt place) few = let no_more = occurrences-few place notes in omega (arith, few, no_more)

module _ (g : EventGraph) (until events : ℕ) (seen : Look) (fine : FineLook 0 until events seen) (bounded : events ≤ EVENTS_MAX) (t : Tallied) (is : t ≡ after_notes g seen.history (first_tallied g)) (outcome : Outcome) (standing_is : outcome ≡ outcome_of seen.standing) where
  latest : t.latest ≡ last_time 0 seen.history
  latest = ap (λ (t : Tallied). t.latest) is ∙ latest-after_notes g seen.history (first_tallied g)

  time : time_reached outcome until t.latest ≡ end_time until seen.history seen.standing
  time = ap₂ (λ o n. time_reached o until n) standing_is latest ∙ time-is until seen.history seen.standing

  pub tallied : tally_of_sums (end_reached outcome) (time_reached outcome until t.latest) t ≡ tally_of g until seen
  tallied =
      let end : end_reached outcome ≡ run_end seen.standing = ap end_reached standing_is ∙ end-is seen.standing in
      let few : length seen.history < 2 ^ 64 = omega (arith, fine.few, bounded) in
      ap₂ (λ (e : RunEnd) (n : ℕ). tally_of_sums e n t) end time
      ∙ ap (λ items. record { end = run_end seen.standing; time = end_time until seen.history seen.standing; items = items })
      (items-come g seen.history until (end_time until seen.history seen.standing) fine.rises few t is)

  -- few events are counted
  pub few_counted : All FewCounted (tally_of g until seen).items
  few_counted =
      All-map FewCounted (item_of_notes g seen.history (end_time until seen.history seen.standing)) (items_reported g)
      (λ k d within. few-occurrences g seen.history (end_time until seen.history seen.standing) (slice_index_or (items_reported g) k d) (omega (arith, fine.few, bounded)))

  -- the last time of all is no later than the stop time
  pub by_stop : max t.since (time_reached outcome until t.latest) ≤ until
  by_stop =
      let since : t.since ≡ latest_at seen.history 0 = ap (λ (t : Tallied). t.since) is ∙ since-after_notes g seen.history (first_tallied g) in
      let at_last = latest_at-by seen.history 0 0 until (omega arith) fine.rises in
      let end = ends-by until seen.history seen.standing fine.rises fine.ends in
      omega (arith, since, at_last, end, time)

-- a run that was followed from its beginning, by a taker that had taken nothing
pub tallied_from_beginning : (m : Model) (starts : List ℤ) (room until events : ℕ) (r : Running) (t : Tracing) (w u : Tallied) (outcome : Outcome) (notes rest : List Note)
    → BegunRun m r.seed starts room r → t.noted ≡ None → w ≡ first_tallied (graph_of m) → events ≤ EVENTS_MAX
    → (outcome ≡ outcomes.WriteFault → ⊥) → (outcome ≡ outcomes.NoMemory → ⊥)
    → notes ++ rest ≡ (run_look until events r t).history → Completes (run_look until events r t) rest outcome → u ≡ after_notes (graph_of r.model) notes w
    → (tally_of_sums (end_reached outcome) (time_reached outcome until u.latest) u ≡ tally_of (graph_of m) until (look_from (graph_of m) r.seed until events (record { now = r.now; noted = None })))
    × (max u.since (time_reached outcome until u.latest) ≤ until)
    × All FewCounted (tally_of (graph_of m) until (look_from (graph_of m) r.seed until events (record { now = r.now; noted = None }))).items
tallied_from_beginning m starts room until events r t w u outcome notes rest begun noted fresh bounded well roomy splits completes taken =
    let g = graph_of m in
    let moment : Configuration → Option (List (List ℤ)) → Moment = λ c n. record { now = c; noted = n } in
    let begins : moment_of r t ≡ start g starts = ap₂ moment begun.now noted in
    let begins-too : moment r.now None ≡ start g starts = ap (λ c. moment c None) begun.now in
    let same : run_look until events r t ≡ look g r.seed starts until events = ap₂ (λ (n : Model) (b : Moment). look_from (graph_of n) r.seed until events b) begun.model begins in
    let (standing_is, none) = completed-so (run_look until events r t) outcome rest well roomy completes in
    let whole : notes ≡ (look g r.seed starts until events).history = sym (append-nil notes) ∙ ap (λ (x : List Note). notes ++ x) (sym none) ∙ splits ∙ ap (λ (l : Look). l.history) same in
    let all : u ≡ after_notes g (look g r.seed starts until events).history (first_tallied g) =
    taken ∙ ap₂ (λ (n : Model) (x : List Note). after_notes (graph_of n) x w) begun.model whole ∙ ap (after_notes g (look g r.seed starts until events).history) fresh in
    let fine : FineLook 0 until events (look g r.seed starts until events) = fine_look g r.seed until events (start g starts) (omega arith) (starts-on_time g starts) in
    let is : outcome ≡ outcome_of (look g r.seed starts until events).standing = standing_is ∙ ap (λ (l : Look). outcome_of l.standing) same in (
      tallied g until events (look g r.seed starts until events) fine bounded u all outcome is ∙ ap (λ (b : Moment). tally_of g until (look_from g r.seed until events b)) (sym begins-too),
      by_stop g until events (look g r.seed starts until events) fine bounded u all outcome is,
      subst (λ (b : Moment). All FewCounted (tally_of g until (look_from g r.seed until events b)).items) (sym begins-too)
          (few_counted g until events (look g r.seed starts until events) fine bounded u all outcome is),
    )

-- ---- the result of one run

of-one-run : (ticks : ℕ) (item : Item) → ticks ≤ STOP_MAX → IsSmall ticks item → FewCounted item → IsOfRuns 1 item
of-one-run ticks (items.Cell span area) le small few = area-longer ticks (STOP_MAX * 1) area (omega (arith, le)) small
of-one-run ticks (items.Count n) le small few = omega (arith, few)

pub all_of_one_run : (ticks : ℕ) (xs : List Item) → ticks ≤ STOP_MAX → All (IsSmall ticks) xs → All FewCounted xs → All (IsOfRuns 1) xs
all_of_one_run ticks xs le small few = λ k d within. of-one-run ticks (slice_index_or xs k d) le (small k d within) (few k d within)
