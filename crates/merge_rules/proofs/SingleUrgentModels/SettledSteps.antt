-- Each step of a single urgent model leaves at most one urgent event.
use Rattle.std.proofs.Common.{◌≡◌, ℕ, ◌^◌, ◌≤◌, ℤ, true, List, Some, Ok}
use Rattle.model_core.specs.EventGraph.{EventGraph}
use Rattle.model_core.specs.Run.State.{in_range}
use Rattle.model_core.specs.Run.Pending.{EntryAndRest, next_entry}
use Rattle.model_core.specs.Run.Step.{Configuration, vertex_at, occur, step}
use Rattle.model_core.specs.Run.History.{start}
use Rattle.model_core.specs.Static.OwnRules.{KeepsParts}
use Rattle.model_core.specs.Rules.UrgentEdges.{single_urgent}
use Rattle.run_laws.proofs.InRange.{in_range-kept}
use Rattle.run_laws.proofs.Keeping.{received, changed, occur-keeps, faulted-ok}
use Rattle.run_laws.proofs.OnTime.{starts-on_time, occur-on_time}
use Rattle.bound_laws.proofs.BeginsInRange.{kept_models_begin_in_range}
use Rattle.model_core.specs.Rules.BetweenSteps.{IsSettled}
use Rattle.merge_rules.proofs.SingleUrgentModels.UrgentEvents.{starts-one_urgent, occur-one_urgent}
use Rattle.merge_rules.proofs.SingleUrgentModels.AtMostOneUrgent.{one_urgent-of, of-one_urgent}
use Rattle.merge_rules.proofs.SingleUrgentModels.SingleUrgent.{NeverBoth, priorities_above_zero, exclusive_vertices}

pub begins_settled : (g : EventGraph) → KeepsParts g → (starts : List ℤ) → IsSettled g (start g starts).now
begins_settled g keeps starts = record {
  urgent = of-one_urgent 0 (start g starts).now.pending (starts-one_urgent 0 g starts);
  late = starts-on_time g starts;
  inside = kept_models_begin_in_range g keeps;
}

-- what a step leaves
pub step_settled : (g : EventGraph) → KeepsParts g → NeverBoth g → single_urgent g ≡ true → (seed : ℕ) (c d : Configuration) (n : EntryAndRest) → IsSettled g c → next_entry c.pending ≡ Some n → n.entry.time ≤ 2 ^ 48 → step g seed c n ≡ Ok d → IsSettled g d
step_settled g keeps never single seed c d n settled next due done =
    let v = vertex_at g n.entry.vertex in
    let occurs : occur g seed v n c.state c.taken ≡ Ok d = faulted-ok n.entry.time _ d done in
    record {
      urgent = of-one_urgent d.clock d.pending (occur-one_urgent g seed v (priorities_above_zero g keeps n.entry.vertex) c d n settled.late (one_urgent-of c.clock c.pending settled.urgent) next
          (λ t e got to. exclusive_vertices g keeps never single n.entry.vertex e.state
          (changed g (λ s. in_range g s ≡ true) (in_range-kept g) seed n.entry.time v.changes (record { state = t; taken = c.taken }) e (received g (λ s. in_range g s ≡ true) (in_range-kept g) v.parameters n.entry.values c.state t settled.inside got) to)
          n.entry.time due)
          occurs);
      late = (occur-on_time g seed v c d n next occurs).1;
      inside = occur-keeps g (λ s. in_range g s ≡ true) (in_range-kept g) seed v n c.state c.taken d settled.inside occurs;
    }
